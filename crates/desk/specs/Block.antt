-- The answer block: what it carries, its bytes, and how they are read back.
use Rattle.std.specs.Prelude.{List, [], ◌++◌, ℕ, ◌+◌, ◌*◌, length, drop, replicate}
use Rattle.plan.specs.Lists.{tabulate}
use Rattle.plan.specs.Faults.{fault}
use Rattle.plan.specs.Words.{bytes_of, words_of, word}
use Rattle.plan.specs.Tasks.{max_tasks}
use Rattle.optimizer.specs.declared.conclusion.Answer.{Answer}
use Rattle.desk.specs.declared.block.Carried.{Carried}
use Rattle.optimizer.specs.Promises.{Outcome, written}

-- "a block of exactly 100 bytes"; the periods' offset in it
abbrev pub block_size : ℕ
block_size = 100

abbrev pub periods_at : ℕ
periods_at = 36

-- "The block gets number and place (4 bytes each), cost, rounds and bound (8 each), n (4 ..), sixteen periods
-- (4 each ..)"
unfoldable pub answer_bytes : Answer → ℕ → List ℕ
answer_bytes a n =
    bytes_of 4 a.fault.number
    ++ (bytes_of 4 a.fault.place
    ++ (bytes_of 8 a.cost
    ++ (bytes_of 8 a.rounds
    ++ (bytes_of 8 a.bound
    ++ bytes_of 4 n))))

unfoldable pub encoded : Carried → List ℕ
encoded c = answer_bytes c.answer c.tasks ++ words_of c.periods

-- reading back
abbrev pub answer_in : List ℕ → Answer
answer_in s = record {
  fault = fault (word s 0 4) (word s 4 4);
  cost = word s 8 8;
  rounds = word s 16 8;
  bound = word s 24 8;
}

unfoldable pub carried : List ℕ → Carried
carried s = record {
  answer = answer_in s;
  tasks = word s 32 4;
  periods = tabulate (λ k. word s (periods_at + 4 * k) 4) max_tasks 0;
}

-- "sixteen periods (4 each; unused ones 0 ..)"
abbrev pub no_periods : List ℕ
no_periods = replicate max_tasks 0

abbrev pub padded : List ℕ → List ℕ
padded xs = xs ++ drop (length xs) no_periods

-- an outcome of CHEAPEST, with n: "all 0 unless answered", but at a stop "DESK's block shows the best's periods and
-- cost too"
abbrev pub carrying : Outcome → ℕ → Carried
carrying o n = record { answer = o.answer; tasks = n; periods = padded (written o []) }
