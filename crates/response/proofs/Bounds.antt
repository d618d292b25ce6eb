-- Assignments within the bounds of the tasks' periods.
use mathlib.Core.Path.{◌≡◌, refl, sym, ap, ◌∙◌}
use mathlib.Core.Bool.{true, false≢true}
use mathlib.Core.List.{List, [], ◌∷◌}
use Prim.Native.Nat.{ℕ, suc, ◌≤◌}
use native.Mathlib.Omega.{arith}
use lib.ListN.{length, get_or, set, length-set, length-map}
use Rattle.plan.specs.declared.tasks.Task.{Task}
use Rattle.plan.specs.Tasks.{between, period_mins, period_maxs}
use Rattle.plan.proofs.Tests.{and_left, and_right, and_both, between_le, le-between}
use Rattle.response.specs.Assignments.{dominates, within_bounds}
use Rattle.response.proofs.Dominance.{AtMost, dominates-at-most, at-most-cons, at-least-set, set-at-most}

pub record Within (ts : List Task) (xs : List ℕ) : Type 0 where
  pub sized : length xs ≡ length ts
  pub low : AtMost (period_mins ts) xs
  pub high : AtMost xs (period_maxs ts)

pub within-true : (ts : List Task) (xs : List ℕ) → within_bounds ts xs ≡ true → Within ts xs
within-true [] [] e = record { sized = refl; low = λ k. omega arith; high = λ k. omega arith }
within-true [] (x ∷ xs) e = absurd (false≢true e)
within-true (t ∷ ts) [] e = absurd (false≢true e)
within-true (t ∷ ts) (x ∷ xs) e =
    let inside = between t.period_min x t.period_max in
    let b = between_le t.period_min x t.period_max (and_left inside (within_bounds ts xs) e) in
    let w = within-true ts xs (and_right inside (within_bounds ts xs) e) in
    record {
      sized = ap suc w.sized;
      low = at-most-cons t.period_min x (period_mins ts) xs b.0 w.low;
      high = at-most-cons x t.period_max xs (period_maxs ts) b.1 w.high;
    }

pub true-within : (ts : List Task) (xs : List ℕ) → Within ts xs → within_bounds ts xs ≡ true
true-within [] [] w = refl
true-within [] (x ∷ xs) w = let z : ⊥ = omega (arith, w.sized) in absurd z
true-within (t ∷ ts) [] w = let z : ⊥ = omega (arith, w.sized) in absurd z
true-within (t ∷ ts) (x ∷ xs) w =
    and_both
    (le-between t.period_min x t.period_max (w.low 0) (w.high 0))
    (true-within ts xs (record { sized = omega (arith, w.sized); low = λ k. w.low (suc k); high = λ k. w.high (suc k) }))

-- no task has its bounds the wrong way round
module _ (ts : List Task) (ranged : AtMost (period_mins ts) (period_maxs ts)) where
  pub mins-within : Within ts (period_mins ts)
  mins-within = record { sized = length-map ts (λ t. t.period_min); low = λ k. omega arith; high = ranged }

  pub maxs-within : Within ts (period_maxs ts)
  maxs-within = record { sized = length-map ts (λ t. t.period_max); low = ranged; high = λ k. omega arith }

pub dominates-within : {ts : List Task} {xs ys : List ℕ} → Within ts xs → Within ts ys → dominates ys xs ≡ true → AtMost xs ys
dominates-within {ts} {xs} {ys} v w e = dominates-at-most xs ys (v.sized ∙ sym w.sized) e

-- one period set
pub within-set : {ts : List Task} {xs : List ℕ} → Within ts xs → (i v : ℕ)
    → get_or (period_mins ts) i 0 ≤ v → v ≤ get_or (period_maxs ts) i 0 → Within ts (set xs i v)
within-set {ts} {xs} w i v p q = record {
  sized = simp length-set w.sized;
  low = at-least-set xs (period_mins ts) i w.low p;
  high = set-at-most xs (period_maxs ts) i w.high q;
}
