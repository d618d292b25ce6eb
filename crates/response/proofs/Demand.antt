-- The demand of task i by time t: it grows with t, falls as periods grow, is at least the task's own and, but for
-- its blocking, that of any task above, and reads the periods above i only.
use mathlib.Core.Path.{◌≡◌, refl}
use mathlib.Core.Logic.{inl, inr}
use mathlib.Core.List.{List}
use Prim.Native.Nat.{ℕ, zero, suc, ◌+◌, ◌≤◌, ◌<◌}
use native.Mathlib.Omega.{arith}
use native.Mathlib.Nat.{mul-le-mul_left}
use lib.ListN.{get_or}
use Rattle.plan.specs.declared.tasks.Task.{Task}
use Rattle.plan.specs.Tasks.{task_at}
use Rattle.plan.proofs.Tests.{eq-or-ne}
use Rattle.response.specs.Analysis.{releases, own_demand, interference_above, demand}
use Rattle.response.proofs.Ceiling.{ceiling-monotone, ceiling-antitone, ceiling-some}

module _ (ts : List Task) where
  -- how often task k may be released before t
  abbrev pub releases_at : List ℕ → ℕ → ℕ → ℕ
  releases_at xs k t = releases (task_at ts k) (get_or xs k 0) t

  above-monotone : (xs : List ℕ) (i s t : ℕ) → s ≤ t → interference_above ts xs i s ≤ interference_above ts xs i t
  above-monotone xs zero s t h = omega arith
  above-monotone xs (suc j) s t h =
      let jitter = (task_at ts j).jitter in
      let more = ceiling-monotone (s + jitter) (t + jitter) (get_or xs j 0) (omega arith) in
      omega (arith, above-monotone xs j s t h, mul-le-mul_left (task_at ts j).wcet more)

  pub demand-monotone : (xs : List ℕ) (i s t : ℕ) → s ≤ t → demand ts xs i s ≤ demand ts xs i t
  unfolding demand
  demand-monotone xs i s t h = omega (arith, above-monotone xs i s t h)

  above-less : (xs ys : List ℕ) (i t : ℕ) → ((k : ℕ) → k < i → releases_at ys k t ≤ releases_at xs k t)
      → interference_above ts ys i t ≤ interference_above ts xs i t
  above-less xs ys zero t h = omega arith
  above-less xs ys (suc j) t h =
      omega
      (arith, mul-le-mul_left (task_at ts j).wcet (h j (omega arith)), above-less xs ys j t (λ k l. h k (omega arith)))

  -- no task above is released more often
  pub demand-less : (xs ys : List ℕ) (i t : ℕ) → ((k : ℕ) → k < i → releases_at ys k t ≤ releases_at xs k t)
      → demand ts ys i t ≤ demand ts xs i t
  unfolding demand
  demand-less xs ys i t h = omega (arith, above-less xs ys i t h)

  -- and one of them once more
  module _ (xs ys : List ℕ) (i t : ℕ) (more : releases_at ys i t < releases_at xs i t) where
    above-more : (k : ℕ) → i < k → ((j : ℕ) → j < k → releases_at ys j t ≤ releases_at xs j t)
        → interference_above ts ys k t + (task_at ts i).wcet ≤ interference_above ts xs k t
    above-more zero l h = let z : ⊥ = omega arith in absurd z
    above-more (suc k) l h = elim (eq-or-ne i k) [
      | inl e ↦
          let m : suc (releases_at ys k t) ≤ releases_at xs k t = rw e at more in
          rw e (omega (arith, mul-le-mul_left (task_at ts k).wcet m, above-less xs ys k t (λ j a. h j (omega arith))))
      | inr n ↦
          omega (arith, mul-le-mul_left (task_at ts k).wcet (h k (omega arith)), above-more k (omega arith) (λ j a. h j (omega arith)))
    ]

    pub demand-more : (k : ℕ) → i < k → ((j : ℕ) → j < k → releases_at ys j t ≤ releases_at xs j t)
        → demand ts ys k t + (task_at ts i).wcet ≤ demand ts xs k t
    unfolding demand
    demand-more k l h = omega (arith, above-more k l h)

  pub demand-antitone : (xs ys : List ℕ) (i t : ℕ)
      → ((k : ℕ) → k < i → 1 ≤ get_or xs k 0) → ((k : ℕ) → k < i → get_or xs k 0 ≤ get_or ys k 0)
      → demand ts ys i t ≤ demand ts xs i t
  demand-antitone xs ys i t p h = demand-less xs ys i t
      (λ k l. ceiling-antitone (t + (task_at ts k).jitter) (get_or xs k 0) (get_or ys k 0) (p k l) (h k l))

  pub demand_own : (xs : List ℕ) (i t : ℕ) → own_demand (task_at ts i) ≤ demand ts xs i t
  unfolding demand
  demand_own xs i t = omega arith

  above_same : (xs ys : List ℕ) (i t : ℕ) → ((k : ℕ) → k < i → get_or xs k 0 ≡ get_or ys k 0)
      → interference_above ts xs i t ≡ interference_above ts ys i t
  above_same xs ys zero t h = refl
  above_same xs ys (suc j) t h = rw (h j (omega arith), above_same xs ys j t (λ k l. h k (omega arith)))

  pub demand-same : (xs ys : List ℕ) (i t : ℕ) → ((k : ℕ) → k < i → get_or xs k 0 ≡ get_or ys k 0)
      → demand ts xs i t ≡ demand ts ys i t
  unfolding demand
  demand-same xs ys i t h = rw (above_same xs ys i t h)

  -- a task's demand is that of any task above it but for the latter's blocking, and its own
  module _ (xs : List ℕ) (t : ℕ) (s : 1 ≤ t) where
    above-demand : (j i : ℕ) → j < i → ((k : ℕ) → k < i → 1 ≤ get_or xs k 0)
        → demand ts xs j t ≤ interference_above ts xs i t + (task_at ts j).blocking
    unfolding demand
    above-demand j zero l p = let z : ⊥ = omega arith in absurd z
    above-demand j (suc i) l p =
        elim (eq-or-ne j i) [
          | inl e ↦
              let some = ceiling-some (t + (task_at ts i).jitter) (get_or xs i 0) (omega arith) (p i (omega arith)) in
              rw e (omega (arith, mul-le-mul_left (task_at ts i).wcet some))
          | inr n ↦ omega (arith, above-demand j i (omega arith) (λ k h. p k (omega arith)))
        ]

    pub demand-above : (j i : ℕ) → j < i → ((k : ℕ) → k < i → 1 ≤ get_or xs k 0)
        → demand ts xs j t + own_demand (task_at ts i) ≤ demand ts xs i t + (task_at ts j).blocking
    unfolding demand
    demand-above j i l p = omega (arith, above-demand j i l p)
