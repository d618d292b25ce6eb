-- Meeting the deadline: which periods it reads, that raising a period keeps it ("the test is sustainable"), for one task and for all.
use mathlib.Core.Path.{◌≡◌, refl, sym, ap, ◌∙◌, fun_ext}
use mathlib.Core.Bool.{true, false}
use mathlib.Core.Logic.{inl, inr}
use mathlib.Core.List.{List}
use Prim.Native.Nat.{ℕ, zero, suc, ◌+◌, ◌-◌, ◌≤◌, ◌<◌}
use native.Mathlib.Omega.{arith}
use lib.ListN.{length, get_or, set}
use lib.Seq.{get_or-set_other}
use borrow.Author.Tests.{leb-true, le-leb}
use Rattle.plan.specs.declared.tasks.Task.{Task}
use Rattle.plan.specs.Tasks.{task_at, Valid, AllValid}
use Rattle.plan.proofs.Tests.{le-or-lt, eq-or-ne, both, not-false, and_left, and_right, and_both}
use Rattle.response.specs.Analysis.{own_demand, deadline_at, climb_from, busy_period, busy_up_to, max_response}
use Rattle.response.specs.Analysis.{meets, first_meet, schedulable}
use Rattle.response.specs.Claims.{Covers}
use Rattle.response.specs.Inner.{Begins, busy_in_time}
use Rattle.response.proofs.Demand.{demand-antitone, demand-same, demand-above, demand_own, demand-monotone}
use Rattle.response.proofs.Exactness.{IsBusy, busy-exact}
use Rattle.response.proofs.Slack.{meets-in-time}

module _ (ts : List Task) where
  -- only periods up to task i's own count, and its own for its deadline
  module _ (xs ys : List ℕ) (i : ℕ) where
    pub busy-same : ((k : ℕ) → k < i → get_or xs k 0 ≡ get_or ys k 0) → (limit : ℕ)
        → busy_up_to limit ts xs i ≡ busy_up_to limit ts ys i
    unfolding busy_period
    busy-same h limit =
        let task = task_at ts i in
        ap (λ needs. climb_from (suc (limit - task.jitter)) (limit - task.jitter) needs (own_demand task)) (fun_ext (λ t. demand-same ts xs ys i t h))

    pub meets-same : ((k : ℕ) → k ≤ i → get_or xs k 0 ≡ get_or ys k 0) → meets ts xs i ≡ meets ts ys i
    meets-same h =
        rw (h i (omega arith), busy-same (λ k l. h k (omega arith)) max_response)

    pub covers_up : (t : ℕ) → ((k : ℕ) → k < i → 1 ≤ get_or xs k 0) → ((k : ℕ) → k ≤ i → get_or xs k 0 ≤ get_or ys k 0)
        → Covers (deadline_at ts xs i) ts xs i t → Covers (deadline_at ts ys i) ts ys i t
    covers_up t p h c =
        record {
          some = c.some;
          early = omega (arith, c.early, h i (omega arith));
          covers = omega (arith, c.covers, demand-antitone ts xs ys i t p (λ k l. h k (omega arith)));
        }

  pub meets-set : (xs : List ℕ) (i j v : ℕ) → i < j → meets ts (set xs j v) i ≡ meets ts xs i
  meets-set xs i j v l = meets-same (set xs j v) xs i (λ k h. get_or-set_other xs j k v 0 (λ e. let z : ⊥ = omega arith in z))

  -- a task and one above it whose blocking the former's own demand outweighs
  module _ (xs : List ℕ) (j i : ℕ) (l : j < i) (p : (k : ℕ) → k < i → 1 ≤ get_or xs k 0)
      (o : (task_at ts j).blocking ≤ own_demand (task_at ts i)) where
    -- a time that covers the lower one's demand covers that of the one above
    pub covers-above : {limit most t : ℕ} → t + (task_at ts j).jitter ≤ limit → Covers most ts xs i t → Covers limit ts xs j t
    covers-above {t = t} h c =
        record { some = c.some; early = h; covers = omega (arith, c.covers, demand-above ts xs t c.some j i l p) }

    -- so the busy period of the lower one is no shorter than that of the one above without its blocking, and its own
    -- demand more
    pub begins-below : 1 ≤ own_demand (task_at ts j) → {limit most r : ℕ} → r + (task_at ts j).jitter ≤ limit → Begins limit ts xs j r
        → Begins most ts xs i (r + (own_demand (task_at ts i) - (task_at ts j).blocking))
    begins-below w {limit} {r = r} h b = record {
      some = omega (arith, b.some);
      below = λ t c.
          let later = own_demand (task_at ts i) - (task_at ts j).blocking in
          let d = demand-above ts xs t c.some j i l p in
          let early : r ≤ t - later = elim (le-or-lt (t - later + (task_at ts j).jitter) limit) [
            | inl e ↦ b.below (t - later) (record {
              some = omega (arith, c.covers, demand_own ts xs j t);
              early = e;
              covers = omega (arith, c.covers, demand-monotone ts xs j (t - later) t (omega arith));
            })
            | inr e ↦ omega arith
          ] in
          omega (arith, c.covers, b.some);
    }

  -- a valid task meets its deadline exactly where some t covers
  module _ (i : ℕ) (v : Valid (task_at ts i)) (xs : List ℕ) where
    timely : IsBusy (deadline_at ts xs i) ts xs i (busy_in_time ts xs i)
    timely = busy-exact (deadline_at ts xs i) ts xs i (omega (arith, v.wcet_some))

    pub meets-covers : meets ts xs i ≡ true → Covers (deadline_at ts xs i) ts xs i (busy_in_time ts xs i)
    meets-covers m = timely.covers (leb-true 1 (busy_in_time ts xs i) (sym (meets-in-time ts xs i v) ∙ m))

    pub covers-meets : {t : ℕ} → Covers (deadline_at ts xs i) ts xs i t → meets ts xs i ≡ true
    covers-meets {t} c = meets-in-time ts xs i v ∙ le-leb 1 (busy_in_time ts xs i) (timely.least t c).0

  pub meets-up : (i : ℕ) → Valid (task_at ts i) → (xs ys : List ℕ)
      → ((k : ℕ) → k < i → 1 ≤ get_or xs k 0) → ((k : ℕ) → k ≤ i → get_or xs k 0 ≤ get_or ys k 0)
      → meets ts xs i ≡ true → meets ts ys i ≡ true
  meets-up i v xs ys p h m = covers-meets i v ys (covers_up xs ys i (busy_in_time ts xs i) p h (meets-covers i v xs m))

  -- schedulable: every task meets its deadline
  module _ (xs : List ℕ) where
    pub first-all : (n : ℕ) → first_meet ts xs n ≡ true → (i : ℕ) → i < n → meets ts xs i ≡ true
    first-all zero e i h = let z : ⊥ = omega arith in absurd z
    first-all (suc n) e i h =
        elim (eq-or-ne i n) [
          | inl z ↦ rw z (and_right (first_meet ts xs n) (meets ts xs n) e)
          | inr z ↦ first-all n (and_left (first_meet ts xs n) (meets ts xs n) e) i (omega arith)
        ]

    all_first : (n : ℕ) → ((i : ℕ) → i < n → meets ts xs i ≡ true) → first_meet ts xs n ≡ true
    all_first zero h = refl
    all_first (suc n) h = and_both (all_first n (λ i l. h i (omega arith))) (h n (omega arith))

    pub schedulable-all : schedulable ts xs ≡ true → (i : ℕ) → i < length ts → meets ts xs i ≡ true
    unfolding schedulable
    schedulable-all e = first-all (length ts) e

    pub all-schedulable : ((i : ℕ) → i < length ts → meets ts xs i ≡ true) → schedulable ts xs ≡ true
    unfolding schedulable
    all-schedulable h = all_first (length ts) h

    pub schedulable-none : (i : ℕ) → i < length ts → meets ts xs i ≡ false → schedulable ts xs ≡ false
    schedulable-none i l m = not-false (λ e. both (schedulable-all e i l) m)

  -- of valid tasks: for each of them some t covers, and raising a period keeps it so
  module _ (v : AllValid ts) where
    pub schedulable-covers : (xs : List ℕ) → schedulable ts xs ≡ true
        → (i : ℕ) → i < length ts → (t : ℕ) × Covers (deadline_at ts xs i) ts xs i t
    schedulable-covers xs e i l = (busy_in_time ts xs i, meets-covers i (v i l) xs (schedulable-all xs e i l))

    pub covers-schedulable : (xs : List ℕ)
        → ((i : ℕ) → i < length ts → (t : ℕ) × Covers (deadline_at ts xs i) ts xs i t) → schedulable ts xs ≡ true
    covers-schedulable xs h = all-schedulable xs (λ i l. covers-meets i (v i l) xs (h i l).1)

    pub sustainable : (xs ys : List ℕ)
        → ((k : ℕ) → k < length ts → 1 ≤ get_or xs k 0)
        → ((k : ℕ) → k < length ts → get_or xs k 0 ≤ get_or ys k 0)
        → schedulable ts xs ≡ true → schedulable ts ys ≡ true
    sustainable xs ys p h e =
        all-schedulable ys
        (λ i l. meets-up i (v i l) xs ys (λ k b. p k (omega arith)) (λ k b. h k (omega arith)) (schedulable-all xs e i l))
