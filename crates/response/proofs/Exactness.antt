-- The climb up to a limit, one law a step; and what it comes to: the busy period is the least t that covers.
use mathlib.Core.Path.{◌≡◌, refl, ap, ◌∙◌}
use mathlib.Core.Logic.{inl, inr}
use mathlib.Core.List.{List}
use Prim.Native.Nat.{ℕ, zero, suc, ◌+◌, ◌-◌, ◌≤◌, ◌<◌}
use native.Mathlib.Omega.{arith}
use lib.ListN.{length}
use borrow.Author.Tests.{lt-ltb, le-ltb, le-leb, lt-leb}
use Rattle.std.specs.Prelude.{Some, None}
use Rattle.plan.specs.declared.tasks.Task.{Task}
use Rattle.plan.specs.Tasks.{max_ticks, max_blocking, task_at, AllValid}
use Rattle.plan.proofs.Tests.{le-or-lt}
use Rattle.response.specs.Analysis.{own_demand, demand, climb_from, busy_period, busy_up_to}
use Rattle.response.specs.Claims.{Covers}
use Rattle.response.specs.Inner.{Begins, some_time}
use Rattle.response.proofs.Demand.{demand-monotone, demand_own}

-- a valid task has work to do
pub own-some : (ts : List Task) → AllValid ts → (i : ℕ) → i < length ts → 1 ≤ own_demand (task_at ts i)
own-some ts v i h = omega (arith, (v i h).wcet_some)

pub own-most : (ts : List Task) → AllValid ts → (i : ℕ) → i < length ts → own_demand (task_at ts i) ≤ max_ticks + max_blocking
own-most ts v i h = omega (arith, (v i h).wcet_most, (v i h).blocking_most)

-- the climb by what is needed by each time, which grows: where it ends covers, and no time that covers is passed by
module _ (last : ℕ) (needs : ℕ → ℕ) where
  climb-past : (left t : ℕ) → last < t → climb_from left last needs t ≡ 0
  unfolding climb_from
  climb-past zero t h = refl
  climb-past (suc left) t h = rw (lt-ltb last t h, climb_from)

  climb-stop : (left t : ℕ) → t ≤ last → needs t ≤ t → climb_from (suc left) last needs t ≡ t
  unfolding climb_from
  climb-stop left t h g = rw (le-ltb last t h, climb_from) (rw (le-leb (needs t) t g))

  climb-on : (left t : ℕ) → t ≤ last → t < needs t → climb_from (suc left) last needs t ≡ climb_from left last needs (needs t)
  unfolding climb_from
  climb-on left t h g = rw (le-ltb last t h, climb_from) (rw (lt-leb (needs t) t g))

  climb-covers : (left t : ℕ) → 1 ≤ climb_from left last needs t
      → (climb_from left last needs t ≤ last) × (needs (climb_from left last needs t) ≤ climb_from left last needs t)
  unfolding climb_from
  climb-covers zero t h = let z : ⊥ = omega arith in absurd z
  climb-covers (suc left) t h =
      elim (le-or-lt t last) [
        | inl g ↦ elim (le-or-lt (needs t) t) [
          | inl k ↦ rw (climb-stop left t g k) (g, k)
          | inr k ↦ rw (climb-on left t g k) (climb-covers left (needs t) (rw (climb-on left t g k) at h))
        ]
        | inr g ↦ let e = climb-past (suc left) t g in let z : ⊥ = omega arith in absurd z
      ]

  -- where it has steps enough to pass its end
  climb-least : ((s t : ℕ) → s ≤ t → needs s ≤ needs t) → (left t s : ℕ) → 1 ≤ t → t ≤ s → s ≤ last → needs s ≤ s → last < left + t
      → (1 ≤ climb_from left last needs t) × (climb_from left last needs t ≤ s)
  unfolding climb_from
  climb-least grows zero t s p q u c l = let z : ⊥ = omega arith in absurd z
  climb-least grows (suc left) t s p q u c l =
      elim (le-or-lt (needs t) t) [
        | inl g ↦ rw (climb-stop left t (omega arith) g) (p, q)
        | inr g ↦ let m = grows t s q in
            rw (climb-on left t (omega arith) g) (climb-least grows left (needs t) s (omega arith) (omega arith) u c (omega arith))
      ]

-- r is the least t that covers within a limit, and 0 exactly where none does
pub record IsBusy (limit : ℕ) (ts : List Task) (xs : List ℕ) (i r : ℕ) : Type 0 where
  pub covers : 1 ≤ r → Covers limit ts xs i r
  pub least : (t : ℕ) → Covers limit ts xs i t → (1 ≤ r) × (r ≤ t)

module _ (limit : ℕ) (ts : List Task) (xs : List ℕ) (i : ℕ) where
  abbrev jitter : ℕ
  jitter = (task_at ts i).jitter

  abbrev own : ℕ
  own = own_demand (task_at ts i)

  pub busy-exact : 1 ≤ own_demand (task_at ts i) → IsBusy limit ts xs i (busy_up_to limit ts xs i)
  unfolding busy_period
  busy-exact w =
      let last = limit - jitter in
      let needs = demand ts xs i in
      record {
        covers = λ s. let c = climb-covers last needs (suc last) own s in record { some = s; early = omega (arith, c.0); covers = c.1 };
        least = λ t c.
            climb-least last needs (demand-monotone ts xs i) (suc last) own t w
            (omega (arith, c.covers, demand_own ts xs i t)) (omega (arith, c.early)) c.covers (omega arith);
      }

  -- a busy period ends, with the jitter, within its limit
  pub busy-early : 1 ≤ own_demand (task_at ts i) → 1 ≤ busy_up_to limit ts xs i
      → busy_up_to limit ts xs i + (task_at ts i).jitter ≤ limit
  busy-early w h = ((busy-exact w).covers h).early

  pub busy-past : 1 ≤ own_demand (task_at ts i) → limit < own_demand (task_at ts i) + (task_at ts i).jitter
      → busy_up_to limit ts xs i ≡ 0
  unfolding busy_period
  busy-past w h = climb-past (limit - jitter) (demand ts xs i) (suc (limit - jitter)) own (omega arith)

  pub own-begins : 1 ≤ own_demand (task_at ts i) → Begins limit ts xs i (own_demand (task_at ts i))
  own-begins h = record { some = h; below = λ s c. omega (arith, c.covers, demand_own ts xs i s) }

-- of a last t
period-exact : (last : ℕ) (ts : List Task) (xs : List ℕ) (i : ℕ) → 1 ≤ own_demand (task_at ts i)
    → IsBusy (last + (task_at ts i).jitter) ts xs i (busy_period last ts xs i)
period-exact last ts xs i w =
    let jitter = (task_at ts i).jitter in
    let same : last + jitter - jitter ≡ last = omega arith in
    rw same at (busy-exact (last + jitter) ts xs i w)

-- a time that is not 0
pub some-time : (t : ℕ) → 1 ≤ t → Some t ≡ some_time t
some-time zero h = absurd (let z : ⊥ = omega arith in z)
some-time (suc t) h = refl

-- one turn of a climb that stands at t: it goes on from the demand m by t,
pub goes_on : {limit : ℕ} {ts : List Task} {xs : List ℕ} {i t m : ℕ} → Begins limit ts xs i t → m ≡ demand ts xs i t → t < m
    → Begins limit ts xs i m
goes_on {ts = ts} {xs} {i} {t} b e h =
    record { some = omega arith; below = λ s c. omega (arith, c.covers, demand-monotone ts xs i t s (b.below s c)) }

-- or is past its last t, or stops
module _ {last : ℕ} {ts : List Task} {xs : List ℕ} {i : ℕ} (w : 1 ≤ own_demand (task_at ts i)) {t : ℕ}
    (b : Begins (last + (task_at ts i).jitter) ts xs i t) where
  pub past : last < t → None ≡ some_time (busy_period last ts xs i)
  past h =
      let r = busy_period last ts xs i in
      elim (le-or-lt 1 r) [
        | inl l ↦ let c = (period-exact last ts xs i w).covers l in absurd (omega (arith, c.early, b.below r c))
        | inr l ↦ let e : 0 ≡ r = omega arith in ap some_time e
      ]

  pub stops : {m : ℕ} → m ≡ demand ts xs i t → t ≤ last → m ≤ t → Some t ≡ some_time (busy_period last ts xs i)
  stops e d h =
      let r = busy_period last ts xs i in
      let x = period-exact last ts xs i w in
      let l = x.least t (record { some = b.some; early = omega arith; covers = omega arith }) in
      let same : t ≡ r = omega (arith, l.1, b.below r (x.covers l.0)) in
      some-time t b.some ∙ ap some_time same
