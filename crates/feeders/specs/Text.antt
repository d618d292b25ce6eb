-- Program `feeders`' text, as bytes (docs/FORMAT.md, "Who feeds whom").
use Rattle.std.specs.Prelude.{◌≡◌, cond, List, [], ◌∷◌, ◌++◌, ℕ, zero, suc, ◌+◌, length, get_or, replicate}
use Rattle.plan.specs.Faults.{passed}
use Rattle.plan.specs.Files.{file_fault, tasks_of, name_of}
use Rattle.precedence.specs.Promises.{PrecedenceAnswer, CountsPredecessors}
use Rattle.listing.specs.Text.{decimal, line, refusal_fields}

-- one line a task, with name and count: of the first tasks, so many
abbrev pub count_lines : List ℕ → List ℕ → ℕ → List ℕ
count_lines s counts zero = []
count_lines s counts (suc i) = count_lines s counts i ++ line (name_of s (i + 1) ∷ decimal (get_or counts i 0) ∷ [])

-- `pair`
abbrev pub pair_word : List ℕ
pair_word = 112 ∷ 97 ∷ 105 ∷ 114 ∷ []

-- and a last line with the pair
abbrev pub answer_text : List ℕ → List ℕ → ℕ → List ℕ
answer_text s counts pair = count_lines s counts (length counts) ++ line (pair_word ∷ decimal pair ∷ [])

-- the text of a plan file s and a list of pairs: FEEDERS's counts and pair, or its refusal
pub record Lists (s list text : List ℕ) : Type 0 where
  pub counts : List ℕ
  pub answer : PrecedenceAnswer
  pub counted : let n = length (tasks_of s) in CountsPredecessors (file_fault s) n list (replicate n 0) counts answer
  pub prints : text
      ≡ cond (passed answer.fault) (answer_text s counts answer.pair) (line (refusal_fields answer.fault))
