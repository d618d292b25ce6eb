-- What the tasks above a task leave idle: no time covers by which that is less than the own demand.
use mathlib.Core.Path.{◌≡◌, ap}
use mathlib.Core.Logic.{inl, inr}
use mathlib.Core.List.{List}
use Prim.Native.Nat.{ℕ, zero, suc, min, ◌+◌, ◌*◌, ◌/◌, ◌≤◌, ◌<◌}
use native.Mathlib.Omega.{arith}
use native.Mathlib.Nat.{mul-le-mul_left, div-add-mod', div-lt_iff_lt-mul, lt-div-mul-add}
use lib.ListN.{length, get_or}
use Rattle.plan.specs.declared.tasks.Task.{Task}
use Rattle.plan.specs.Tasks.{task_at}
use Rattle.plan.proofs.Tests.{le-or-lt}
use Rattle.response.specs.Analysis.{ceiling, own_demand, interference, interference_above, demand}
use Rattle.response.specs.Inner.{Limits, Begins, BeginsByUtilization, whole, utilization, utilization_above}
use Rattle.response.proofs.Ceiling.{le-ceiling}

utilization-le : (task : Task) (p t : ℕ) → 1 ≤ p → utilization task p * t ≤ interference task p t * whole
utilization-le task p t s =
    let c = ceiling (t + task.jitter) p in
    let by : t ≤ c * p = omega (arith, le-ceiling (t + task.jitter) p s) in
    let part : utilization task p * p ≤ task.wcet * whole = omega (arith, div-add-mod' (task.wcet * whole) p) in
    omega (arith, mul-le-mul_left (utilization task p) by, mul-le-mul_left c part)

module _ (ts : List Task) (xs : List ℕ) (t : ℕ) where
  above-le : (i : ℕ) → ((k : ℕ) → k < i → 1 ≤ get_or xs k 0) → utilization_above ts xs i * t ≤ interference_above ts xs i t * whole
  above-le zero p = omega arith
  above-le (suc j) p =
      omega (arith, above-le j (λ k h. p k (omega arith)), utilization-le (task_at ts j) (get_or xs j 0) t (p j (omega arith)))

  above-covers : (i : ℕ) → ((k : ℕ) → k < i → 1 ≤ get_or xs k 0) → demand ts xs i t ≤ t
      → own_demand (task_at ts i) * whole + utilization_above ts xs i * t ≤ t * whole
  unfolding demand
  above-covers i p c = omega (arith, above-le i p)

  -- none where they take the whole processor
  pub full-covers : (i : ℕ) → ((k : ℕ) → k < i → 1 ≤ get_or xs k 0) → 1 ≤ own_demand (task_at ts i)
      → whole ≤ utilization_above ts xs i → demand ts xs i t ≤ t → ⊥
  full-covers i p w h c = let m = mul-le-mul_left t h in omega (arith, above-covers i p c)

-- so a climb may begin where what they leave holds the task's own demand
pub utilization-begins : {ts : List Task} {xs : List ℕ} → Limits ts xs → {i : ℕ} → i < length xs → {own above limit t : ℕ}
    → own ≡ own_demand (task_at ts i) → above ≡ utilization_above ts xs i → BeginsByUtilization own above limit t → Begins limit ts xs i t
utilization-begins {ts} {xs} l {i} h o e b =
    record { some = b.some; below = λ s c. b.below s (omega (arith, c.early)) (rw (o, e) (above-covers ts xs s i (λ k d. l.some k (omega arith)) c.covers)) }

-- that is the own demand over the idle part
module _ {own above limit : ℕ} (w : 1 ≤ own) where
  pub idle-begins : {idle t : ℕ} → 1 ≤ idle → idle + above ≡ whole → t ≡ min (own * whole / idle) (limit + 1)
      → BeginsByUtilization own above limit t
  idle-begins {idle} {t} h e is =
      let q = own * whole / idle in
      let z : 0 < idle = omega arith in
      let more : own * whole < q * idle + idle = lt-div-mul-add z in
      let q-some : 1 ≤ q = elim (le-or-lt 1 q) [
        | inl l ↦ l
        | inr l ↦ let n : q ≡ 0 = omega arith in let y : own * whole < 0 * idle + idle = rw n at more in omega arith
      ] in
      record {
        some = omega arith;
        below = λ s c d.
            let p : s * (idle + above) ≡ s * whole = ap (λ x. s * x) e in
            let y : q < suc s = (div-lt_iff_lt-mul z).1 (omega arith) in
            omega arith;
      }
