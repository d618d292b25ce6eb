-- Valid tasks at periods within their bounds: the bounds as lists, and the time test.
use mathlib.Core.Path.{◌≡◌}
use mathlib.Core.Bool.{true}
use mathlib.Core.List.{List}
use Prim.Native.Nat.{ℕ, ◌≤◌, ◌<◌}
use native.Mathlib.Omega.{arith}
use lib.ListN.{length, get_or, get_or-map}
use Rattle.plan.specs.declared.tasks.Task.{Task}
use Rattle.plan.specs.Tasks.{max_tasks, max_weight, no_task, task_at, AllValid, period_mins, period_maxs, weights}
use Rattle.plan.proofs.Valid.{valid-at}
use Rattle.response.specs.Analysis.{schedulable}
use Rattle.response.specs.Inner.{Limits}
use Rattle.response.proofs.Sustainable.{sustainable}
use Rattle.response.proofs.Dominance.{AtMost}
use Rattle.response.proofs.Bounds.{Within}

module _ (ts : List Task) where
  pub min-at : (k : ℕ) → get_or (period_mins ts) k 0 ≡ (task_at ts k).period_min
  min-at k = get_or-map (λ t. t.period_min) ts k no_task

  pub max-at : (k : ℕ) → get_or (period_maxs ts) k 0 ≡ (task_at ts k).period_max
  max-at k = get_or-map (λ t. t.period_max) ts k no_task

  pub weight-at : (k : ℕ) → get_or (weights ts) k 0 ≡ (task_at ts k).weight
  weight-at k = get_or-map (λ t. t.weight) ts k no_task

  module _ (v : AllValid ts) where
    pub ranged : AtMost (period_mins ts) (period_maxs ts)
    ranged k = rw (min-at k, max-at k) (valid-at ts v k).ordered

    pub light : (k : ℕ) → get_or (weights ts) k 0 ≤ max_weight
    light k = rw (weight-at k) (valid-at ts v k).weight_most

    module _ {xs : List ℕ} (w : Within ts xs) where
      pub some-within : (k : ℕ) → k < length ts → 1 ≤ get_or xs k 0
      some-within k h = omega (arith, (v k h).min_some, min-at k, w.low k)

      pub limits-within : length ts ≤ max_tasks → Limits ts xs
      limits-within few = record {
        valid = v;
        few = few;
        sized = w.sized;
        some = λ k h. some-within k (omega (arith, w.sized));
        most = λ k. omega (arith, w.high k, max-at k, (valid-at ts v k).max_most);
      }

      -- raising periods within the bounds never makes a deadline missed
      pub sustainable-within : (ys : List ℕ) → AtMost xs ys → schedulable ts xs ≡ true → schedulable ts ys ≡ true
      sustainable-within ys m e = sustainable ts v xs ys some-within (λ k h. m k) e
