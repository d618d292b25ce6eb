-- Without jitter the outcomes are those of exact release.
use mathlib.Core.Path.{◌≡◌, refl, fun_ext}
use mathlib.Core.Logic.{inl, inr}
use mathlib.Core.List.{List}
use Prim.Native.Nat.{ℕ, ◌+◌}
use native.Mathlib.Omega.{arith}
use lib.ListN.{length}
use borrow.Author.Tests.{eq-eqb, ne_eqb}
use Rattle.plan.specs.declared.tasks.Task.{Task}
use Rattle.plan.specs.declared.faults.Fault.{Fault}
use Rattle.plan.specs.Tasks.{task_at, period_maxs}
use Rattle.plan.proofs.Tests.{eq-or-ne}
use Rattle.plan.proofs.Rules.{or-next, or-here}
use Rattle.response.specs.Analysis.{own_demand}
use Rattle.response.specs.ExactRelease.{WithoutJitter}
use Rattle.response.proofs.ExactRelease.{no-jitter, exact-slacks, exact-test}
use Rattle.optimizer.specs.declared.conclusion.Answer.{Answer}
use Rattle.optimizer.specs.Promises.{call_fault, alone_fault, none_fault, infeasible_fault, Outcome, called, outcome_of, Answers}
use Rattle.optimizer.specs.Promises.{exact_alone_fault, exact_none_fault, exact_infeasible_fault, exact_called, exact_outcome_of}

module _ (ts : List Task) (n : WithoutJitter ts) where
  exact-alone : alone_fault ts ≡ exact_alone_fault ts
  exact-alone = fun_ext (λ i.
      let task = task_at ts i in
      let alone : own_demand task + task.jitter ≡ own_demand task = omega (arith, no-jitter ts n i) in
      rw alone refl)

  exact-none : none_fault ts ≡ exact_none_fault ts
  exact-none = rw (exact-test ts n, exact-slacks ts n (period_maxs ts)) refl

  exact-infeasible : infeasible_fault ts ≡ exact_infeasible_fault ts
  unfolding infeasible_fault exact_infeasible_fault
  exact-infeasible = rw (exact-alone, exact-none) refl

  module _ (f : Fault) (space work : ℕ) where
    exact-called : (x : Outcome) → called f ts space work x ≡ exact_called f ts space work x
    exact-called x = elim (eq-or-ne (call_fault f ts space work).number 0) [
      | inl z ↦ rw (or-next (call_fault f ts space work) (exact_infeasible_fault ts) z, eq-eqb _ 0 z, exact-infeasible) refl
      | inr z ↦ rw (or-here (call_fault f ts space work) (exact_infeasible_fault ts) z, ne_eqb _ 0 z) refl
    ]

    pub exact-outcome : (budget : ℕ) → outcome_of f ts budget space work ≡ exact_outcome_of f ts budget space work
    unfolding outcome_of exact_outcome_of
    exact-outcome budget = rw (exact-called, exact-test ts n) refl

  module _ (f : Fault) (budget : ℕ) (o w : List ℕ) {o' w' : List ℕ} {r : Answer} where
    pub exact-answers : Answers (outcome_of f ts budget (length o) (length w)) o o' w w' r
        → Answers (exact_outcome_of f ts budget (length o) (length w)) o o' w w' r
    exact-answers a = rw (exact-outcome f (length o) (length w) budget) at a
