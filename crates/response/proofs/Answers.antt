-- The list of slacks, number by number, as it is written, counted and searched.
use mathlib.Core.Path.{◌≡◌, refl, sym, ap, ◌∙◌}
use mathlib.Core.Logic.{inl, inr}
use mathlib.Core.List.{List, [], ◌∷◌}
use Prim.Native.Nat.{ℕ, zero, suc, ◌+◌, ◌<◌}
use native.Mathlib.Omega.{arith}
use lib.ListN.{length, get_or}
use lib.Seq.{ext_get_or}
use Rattle.std.specs.Prelude.{true, false, ℤ, pos, int_lt, Option, Some, None, MatchOption}
use Rattle.std.specs.List.{filter, AllWithin, HoldsAt}
use Rattle.plan.specs.declared.tasks.Task.{Task}
use Rattle.plan.proofs.Tests.{bool}
use Rattle.plan.proofs.Lists.{tabulate-length, tabulate-at}
use Rattle.response.specs.Analysis.{slack, slack_list, missed_count, first_missed_from, first_missed}
use Rattle.response.specs.Inner.{some_task}

module _ (ts : List Task) (xs : List ℕ) where
  pub slacks-length : length (slack_list ts xs) ≡ length ts
  unfolding slack_list
  slacks-length = tabulate-length (slack ts xs) (length ts) 0

  pub slacks-at : (k : ℕ) → k < length ts → get_or (slack_list ts xs) k (pos 0) ≡ slack ts xs k
  unfolding slack_list
  slacks-at k h =
      let e : 0 + k ≡ k = omega arith in tabulate-at (slack ts xs) (length ts) 0 k (pos 0) h ∙ ap (slack ts xs) e

  -- a space whose first i numbers are written
  abbrev pub Written : List ℤ → ℕ → Type 0
  Written o i = (k : ℕ) → k < i → get_or o k (pos 0) ≡ slack ts xs k

  pub all-written : (o : List ℤ) → length o ≡ length ts → Written o (length o) → o ≡ slack_list ts xs
  all-written o n w = ext_get_or (pos 0) o (slack_list ts xs) (n ∙ sym slacks-length) (λ k h. w k h ∙ sym (slacks-at k (omega arith)))

-- how many are below 0
pub count-missed : (ss : List ℤ) → length (filter (λ s. int_lt s (pos 0)) ss) ≡ missed_count ss
count-missed [] = refl
count-missed (s ∷ ss) = elim (bool (int_lt s (pos 0))) [ inl e ↦ rw e (omega (arith, count-missed ss)) | inr e ↦ rw e (omega (arith, count-missed ss)) ]

-- the first that is below 0, as it is searched for
abbrev pub Late : ℤ → Type 0
Late s = int_lt s (pos 0) ≡ true

abbrev pub Met : ℤ → Type 0
Met s = int_lt s (pos 0) ≡ false

first-none : (ss : List ℤ) (task : ℕ) → AllWithin Met ss 0 (length ss) → first_missed_from task ss ≡ 0
first-none [] task h = refl
first-none (s ∷ ss) task h =
    rw (h 0 (pos 0) (omega arith) (omega arith), first_missed_from)
    (first-none ss (suc task) (λ k d p q. h (suc k) d (omega arith) (omega arith)))

first-at : (ss : List ℤ) (task i : ℕ) → i < length ss → HoldsAt Late ss i → AllWithin Met ss 0 i
    → first_missed_from task ss ≡ task + i
first-at [] task i l e h = let z : ⊥ = omega arith in absurd z
first-at (s ∷ ss) task zero l e h = let z : task + 0 ≡ task = omega arith in rw (z, e (pos 0), first_missed_from)
first-at (s ∷ ss) task (suc i) l e h =
    let z : task + suc i ≡ suc task + i = omega arith in
    rw (z, h 0 (pos 0) (omega arith) (omega arith), first_missed_from)
    (first-at ss (suc task) i (omega arith) e (λ k d p q. h (suc k) d (omega arith) (omega arith)))

pub first-searched : (ss : List ℤ) (found : Option ℕ)
    → MatchOption found
    (AllWithin Met ss 0 (length ss))
    (λ i. (i < length ss) × HoldsAt Late ss i × AllWithin Met ss 0 i)
    → some_task found ≡ first_missed ss
first-searched ss None h = sym (first-none ss 1 h)
first-searched ss (Some i) h = omega (arith, first-at ss 1 i h.0 h.1 h.2)
