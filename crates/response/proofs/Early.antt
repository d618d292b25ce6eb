-- The time test with climbs that are left past the deadline: the same, and one that examples can compute.
use mathlib.Core.Path.{◌≡◌, refl, fun_ext}
use mathlib.Core.Bool.{Bool, true, ◌&&◌}
use mathlib.Core.List.{List}
use Prim.Native.Nat.{ℕ, zero, suc, ◌≤◌}
use native.Mathlib.Omega.{arith}
use lib.Dec.{leb}
use lib.ListN.{length}
use Rattle.plan.specs.declared.tasks.Task.{Task}
use Rattle.plan.specs.Tasks.{AllValid}
use Rattle.response.specs.Analysis.{first_meet, schedulable}
use Rattle.response.specs.Inner.{busy_in_time}
use Rattle.response.proofs.Slack.{meets-in-time}

abbrev pub first_in_time : List Task → List ℕ → ℕ → Bool
first_in_time ts xs zero = true
first_in_time ts xs (suc i) = first_in_time ts xs i && leb 1 (busy_in_time ts xs i)

abbrev pub in_time : List Task → List ℕ → Bool
in_time ts xs = first_in_time ts xs (length ts)

module _ (ts : List Task) (v : AllValid ts) where
  first-early : (xs : List ℕ) (n : ℕ) → n ≤ length ts → first_meet ts xs n ≡ first_in_time ts xs n
  first-early xs zero h = refl
  first-early xs (suc n) h = rw (first-early xs n (omega arith), meets-in-time ts xs n (v n (omega arith)))

  pub schedulable-early : schedulable ts ≡ in_time ts
  unfolding schedulable
  schedulable-early = fun_ext (λ xs. first-early xs (length ts) (omega arith))
