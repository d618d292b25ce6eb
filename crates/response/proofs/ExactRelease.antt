-- Without jitter the time test is that of exact release.
use mathlib.Core.Path.{◌≡◌, refl, ap, ◌∙◌, fun_ext}
use mathlib.Core.Logic.{inl, inr}
use mathlib.Core.List.{List}
use Prim.Native.Nat.{ℕ, zero, suc, ◌+◌}
use native.Mathlib.Omega.{arith}
use lib.ListN.{length, get_or-eq_default}
use Rattle.plan.specs.declared.tasks.Task.{Task}
use Rattle.plan.specs.Lists.{tabulate}
use Rattle.plan.specs.Tasks.{no_task, task_at}
use Rattle.plan.proofs.Tests.{le-or-lt}
use Rattle.response.specs.Analysis.{deadline_at, slack_of, interference_above, demand, busy_period, response_of, response_time}
use Rattle.response.specs.Analysis.{first_meet, schedulable, slack_list}
use Rattle.response.specs.ExactRelease.{WithoutJitter, exact_above, exact_demand, exact_response_time, exact_slack_list}
use Rattle.response.specs.ExactRelease.{exact_first_meet, exact_schedulable}

response-same : (task : Task) → task.jitter ≡ 0 → (r : ℕ) → response_of task r ≡ r
response-same task e zero = refl
response-same task e (suc r) = omega (arith, e)

module _ (ts : List Task) (n : WithoutJitter ts) where
  pub no-jitter : (i : ℕ) → (task_at ts i).jitter ≡ 0
  no-jitter i = elim (le-or-lt (length ts) i) [ inl o ↦ rw (get_or-eq_default ts no_task {n = i} o) refl | inr l ↦ n i l ]

  exact-above : (xs : List ℕ) (i t : ℕ) → interference_above ts xs i t ≡ exact_above ts xs i t
  exact-above xs zero t = refl
  exact-above xs (suc j) t = let here : t + 0 ≡ t = omega arith in rw (exact-above xs j t, no-jitter j, here) refl

  exact-demand : (xs : List ℕ) (i : ℕ) → demand ts xs i ≡ exact_demand ts xs i
  unfolding demand
  exact-demand xs i = fun_ext (λ t. rw (exact-above xs i t) refl)

  pub exact-response : (xs : List ℕ) (i : ℕ) → response_time ts xs i ≡ exact_response_time ts xs i
  unfolding busy_period exact_response_time
  exact-response xs i = response-same (task_at ts i) (no-jitter i) _ ∙ rw (no-jitter i, exact-demand xs i) refl

  pub exact-slacks : (xs : List ℕ) → slack_list ts xs ≡ exact_slack_list ts xs
  unfolding slack_list exact_slack_list
  exact-slacks xs =
      ap (λ s. tabulate s (length ts) 0) (fun_ext (λ i. ap (slack_of (deadline_at ts xs i)) (exact-response xs i)))

  exact-first : (xs : List ℕ) (n : ℕ) → first_meet ts xs n ≡ exact_first_meet ts xs n
  exact-first xs zero = refl
  exact-first xs (suc n) = rw (exact-first xs n, exact-response xs n) refl

  pub exact-test : schedulable ts ≡ exact_schedulable ts
  unfolding schedulable exact_schedulable
  exact-test = fun_ext (λ xs. exact-first xs (length ts))
