-- The first task that misses its deadline, as the slacks tell it: 0 exactly where the periods are schedulable.
use mathlib.Core.Path.{◌≡◌, refl}
use mathlib.Core.Bool.{true, false, true≢false}
use mathlib.Core.Logic.{inl, inr}
use mathlib.Core.List.{List}
use Prim.Native.Nat.{ℕ, zero, suc, ◌+◌, ◌≤◌, ◌<◌}
use native.Mathlib.Omega.{arith}
use lib.ListN.{length}
use Rattle.plan.specs.declared.tasks.Task.{Task}
use Rattle.plan.specs.Lists.{tabulate}
use Rattle.plan.proofs.Tests.{bool, eq-or-ne}
use Rattle.response.specs.Analysis.{slack, meets, first_meet, schedulable, slack_list, first_missed_from, first_missed}
use Rattle.response.proofs.Slack.{late-not}
use Rattle.response.proofs.Sustainable.{first-all, schedulable-all}

-- task k misses its deadline, and every task above it meets its own
pub record FirstMiss (ts : List Task) (xs : List ℕ) (k : ℕ) : Type 0 where
  pub below : k < length ts
  pub misses : meets ts xs k ≡ false
  pub above : (j : ℕ) → j < k → meets ts xs j ≡ true

module _ (ts : List Task) (xs : List ℕ) where
  first_of : (n : ℕ) → n ≤ length ts → first_meet ts xs n ≡ false → (k : ℕ) × FirstMiss ts xs k
  first_of zero h e = absurd (true≢false e)
  first_of (suc n) h e =
      elim (bool (first_meet ts xs n)) [
        | inl f ↦ (n, record { below = omega arith; misses = rw f at e; above = first-all ts xs n f })
        | inr f ↦ first_of n (omega arith) f
      ]

  pub first-miss : schedulable ts xs ≡ false → (k : ℕ) × FirstMiss ts xs k
  unfolding schedulable
  first-miss e = first_of (length ts) (omega arith) e

  missed-from : (left i k : ℕ) → i ≤ k → k < left + i → FirstMiss ts xs k
      → first_missed_from (suc i) (tabulate (slack ts xs) left i) ≡ suc k
  missed-from zero i k p q m = let z : ⊥ = omega arith in absurd z
  missed-from (suc left) i k p q m =
      elim (eq-or-ne i k) [
        | inl z ↦ rw z (rw (late-not (slack ts xs k), m.misses, first_missed_from))
        | inr z ↦ rw (late-not (slack ts xs i), m.above i (omega arith), first_missed_from)
            (missed-from left (suc i) k (omega arith) (omega arith) m)
      ]

  missed-none : (left i : ℕ) → ((k : ℕ) → k < left + i → meets ts xs k ≡ true)
      → first_missed_from (suc i) (tabulate (slack ts xs) left i) ≡ 0
  missed-none zero i h = refl
  missed-none (suc left) i h =
      rw (late-not (slack ts xs i), h i (omega arith), first_missed_from)
      (missed-none left (suc i) (λ k l. h k (omega arith)))

  pub first_missed-is : (k : ℕ) → FirstMiss ts xs k → first_missed (slack_list ts xs) ≡ suc k
  unfolding slack_list
  first_missed-is k m = missed-from (length ts) 0 k (omega arith) (omega (arith, m.below)) m

  pub schedulable-first : schedulable ts xs ≡ true → first_missed (slack_list ts xs) ≡ 0
  unfolding slack_list
  schedulable-first e = missed-none (length ts) 0 (λ k l. schedulable-all ts xs e k (omega arith))

  pub first-schedulable : first_missed (slack_list ts xs) ≡ 0 → schedulable ts xs ≡ true
  first-schedulable e =
      elim (bool (schedulable ts xs)) [
        | inl f ↦ f
        | inr f ↦ let m = first-miss f in let e' = first_missed-is m.0 m.1 in let z : ⊥ = omega arith in absurd z
      ]
