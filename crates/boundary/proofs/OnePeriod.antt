-- One period changed: what a task's busy period at one value tells of the others.
use mathlib.Core.Path.{◌≡◌, sym, ap, ◌∙◌}
use mathlib.Core.Logic.{inl, inr}
use mathlib.Core.List.{List}
use Prim.Native.Nat.{ℕ, suc, ◌+◌, ◌≤◌, ◌<◌}
use native.Mathlib.Omega.{arith}
use native.Mathlib.Nat.{le_trans, mul-le-mul_left, lt_of_mul-lt-mul_right}
use lib.Dec.{leb}
use lib.ListN.{length, get_or, set}
use lib.Seq.{get_or-set_same, get_or-set_other}
use borrow.Author.Tests.{le-leb, lt-leb}
use Rattle.std.specs.Int.{div_ceil}
use Rattle.std.proofs.lemmas.Grind.{div_ceil_times}
use Rattle.plan.specs.declared.tasks.Task.{Task}
use Rattle.plan.specs.Tasks.{task_at, Valid}
use Rattle.plan.proofs.Tests.{le-or-lt, eq-or-ne, not-false}
use Rattle.response.specs.Analysis.{ceiling, releases, own_demand, demand, deadline, deadline_at, busy_up_to, meets}
use Rattle.response.specs.Claims.{Covers}
use Rattle.response.specs.Inner.{Begins, busy_in_time}
use Rattle.boundary.specs.Misses.{BeginsAt}
use Rattle.response.proofs.Ceiling.{ceiling-le, le-ceiling, ceiling-some}
use Rattle.response.proofs.Demand.{demand-monotone, demand-less, demand-more, demand_own, demand-same}
use Rattle.response.proofs.Exactness.{busy-exact}
use Rattle.response.proofs.Dominance.{set-mono}
use Rattle.response.proofs.Sustainable.{busy-same, covers_up, meets-covers, covers-meets}

-- the least period at which a task is released as often within a window t as at period p
abbrev pub alike : ℕ → ℕ → ℕ
alike t p = ceiling t (ceiling t p)

module _ (t p : ℕ) (s : 1 ≤ t) (h : 1 ≤ p) where
  pub alike-le : alike t p ≤ p
  alike-le = ceiling-le t (ceiling t p) p (ceiling-some t p s h) (omega (arith, le-ceiling t p h))

  pub alike-releases : (q : ℕ) → alike t p ≤ q → ceiling t q ≤ ceiling t p
  alike-releases q l =
      let m = ceiling-some t p s h in
      ceiling-le t q (ceiling t p) (omega (arith, ceiling-some t (ceiling t p) s m))
      (le_trans (le-ceiling t (ceiling t p) m) (omega (arith, mul-le-mul_left (ceiling t p) l)))

  -- at a shorter one once more at least
  pub alike-more : (q : ℕ) → 1 ≤ q → q < alike t p → ceiling t p < ceiling t q
  alike-more q c l = elim (le-or-lt (ceiling t q) (ceiling t p)) [
    | inr g ↦ g
    | inl g ↦
        let m = ceiling-some t p s h in
        let z = ceiling-le t (ceiling t p) q m (le_trans (le-ceiling t q c) (omega (arith, mul-le-mul_left q g))) in
        omega arith
  ]

-- as the code computes it
rounded-up : (a p : ℕ) → 1 ≤ p → div_ceil a p ≡ ceiling a p
rounded-up a p h =
    let b = div_ceil_times a p h in
    let most = ceiling-le a p (div_ceil a p) h b.0 in
    let least : div_ceil a p < suc (ceiling a p) = lt_of_mul-lt-mul_right p (omega (arith, b.1, le-ceiling a p h)) in
    omega arith

pub alike-is : (t p : ℕ) → 1 ≤ t → 1 ≤ p → div_ceil t (div_ceil t p) ≡ alike t p
alike-is t p s h = rw (rounded-up t p h) (rounded-up t (ceiling t p) (ceiling-some t p s h))

-- a task's demand by the end of its busy period is no less
busy-tight : (limit : ℕ) (ts : List Task) (xs : List ℕ) (i : ℕ) → 1 ≤ own_demand (task_at ts i)
    → 1 ≤ busy_up_to limit ts xs i → busy_up_to limit ts xs i ≤ demand ts xs i (busy_up_to limit ts xs i)
busy-tight limit ts xs i w s =
    let r = busy_up_to limit ts xs i in
    let m = demand ts xs i r in
    let x = busy-exact limit ts xs i w in
    let c = x.covers s in
    elim (le-or-lt r m) [
      | inl h ↦ h
      | inr h ↦ let z = x.least m (record {
        some = omega (arith, demand_own ts xs i r);
        early = omega (arith, c.early);
        covers = demand-monotone ts xs i m r (omega arith);
      }) in omega (arith, z.1)
    ]

module _ (ts : List Task) (u : List ℕ) (i : ℕ) where
  abbrev jitter : ℕ
  jitter = (task_at ts i).jitter

  -- the deadline of another task stays
  pub deadline-other : (k p : ℕ) → (k ≡ i → ⊥) → deadline_at ts (set u i p) k ≡ deadline_at ts u k
  deadline-other k p n = ap (deadline (task_at ts k)) (get_or-set_other u i k p 0 n)

  -- and the busy period of a task above
  pub busy-other : (k p : ℕ) → k < i → busy_in_time ts (set u i p) k ≡ busy_in_time ts u k
  busy-other k p l =
      ap (λ d. busy_up_to d ts (set u i p) k) (deadline-other k p (λ e. omega arith))
      ∙ busy-same ts (set u i p) u k (λ j h. get_or-set_other u i j p 0 (λ e. omega arith)) (deadline_at ts u k)

  module _ (b : i < length u) where
    -- task i's own period bounds its deadline and has no part in its demand
    own-covers : (p q t : ℕ) → t + jitter ≤ q
        → Covers (deadline_at ts (set u i p) i) ts (set u i p) i t → Covers (deadline_at ts (set u i q) i) ts (set u i q) i t
    own-covers p q t h c =
        let other : (x k : ℕ) → k < i → get_or (set u i x) k 0 ≡ get_or u k 0 = λ x k l. get_or-set_other u i k x 0 (λ e. omega arith) in
        record {
          some = c.some;
          early = omega (arith, c.early, get_or-set_same u i q 0 b);
          covers = omega (arith, c.covers, demand-same ts (set u i p) (set u i q) i t (λ k l. other p k l ∙ sym (other q k l)));
        }

    -- so task i meets its deadline from its busy period and its jitter on
    pub own_meets : (most : ℕ) {r : ℕ} → Valid (task_at ts i) → r ≡ busy_in_time ts (set u i most) i → 1 ≤ r
        → (v : ℕ) → v ≤ most → meets ts (set u i v) i ≡ leb (r + (task_at ts i).jitter) v
    own_meets most {r} valid is s v h =
        let x = busy-exact (deadline_at ts (set u i most) i) ts (set u i most) i (omega (arith, valid.wcet_some)) in
        elim (le-or-lt (r + jitter) v) [
          | inl l ↦ rw (le-leb (r + jitter) v l)
              (covers-meets ts i valid (set u i v) (own-covers most v r l (rw (← is) at (x.covers (omega arith)))))
          | inr l ↦ rw (lt-leb (r + jitter) v l) (not-false (λ e.
              let y = meets-covers ts i valid (set u i v) e in
              let t = busy_in_time ts (set u i v) i in
              let early : t + jitter ≤ v = omega (arith, get_or-set_same u i v 0 b, y.early) in
              omega (arith, x.least t (own-covers v most t (omega arith) y))))
        ]

    -- with that busy period, which it keeps
    pub own_busy : (most : ℕ) {r : ℕ} → 1 ≤ own_demand (task_at ts i) → r ≡ busy_in_time ts (set u i most) i → 1 ≤ r
        → (v : ℕ) → v ≤ most → r + (task_at ts i).jitter ≤ v → busy_in_time ts (set u i v) i ≡ r
    own_busy most {r} w is s v h l =
        let x = busy-exact (deadline_at ts (set u i most) i) ts (set u i most) i w in
        let y = busy-exact (deadline_at ts (set u i v) i) ts (set u i v) i w in
        let t = busy_in_time ts (set u i v) i in
        let low = y.least r (own-covers most v r l (rw (← is) at (x.covers (omega arith)))) in
        let c = y.covers low.0 in
        let early : t + jitter ≤ v = omega (arith, get_or-set_same u i v 0 b, c.early) in
        let high = x.least t (own-covers v most t (omega arith) c) in
        omega (arith, low.1, high.1, is)

    -- the busy period of task k below covers wherever task i is released no more often within it
    module _ (k : ℕ) (below : i < k) (w : 1 ≤ own_demand (task_at ts k)) where
      pub released-covers : (p : ℕ) {r : ℕ} → r ≡ busy_in_time ts (set u i p) k → 1 ≤ r
          → (q : ℕ) → releases (task_at ts i) q r ≤ releases (task_at ts i) p r → Covers (deadline_at ts (set u i q) k) ts (set u i q) k r
      released-covers p {r} is s q h =
          let c = rw (← is) at ((busy-exact (deadline_at ts (set u i p) k) ts (set u i p) k w).covers (omega arith)) in
          record {
            some = s;
            early = omega (arith, c.early, deadline-other k p (λ e. omega arith), deadline-other k q (λ e. omega arith));
            covers = omega (
              arith,
              c.covers,
              demand-less ts (set u i p) (set u i q) k r (λ j l. elim (eq-or-ne j i) [
                | inl e ↦ rw (e, get_or-set_same u i p 0 b, get_or-set_same u i q 0 b) h
                | inr n ↦ rw (get_or-set_other u i j p 0 n, get_or-set_other u i j q 0 n) (omega arith)
              ]),
            );
          }

      -- and wherever it is released more often, no earlier than one more run of it after that
      pub released-begins : (p : ℕ) {r : ℕ} → r ≡ busy_in_time ts (set u i p) k → 1 ≤ r
          → (q : ℕ) → BeginsAt ts u i q k r → releases (task_at ts i) p r < releases (task_at ts i) q r → BeginsAt ts u i q k (r + (task_at ts i).wcet)
      released-begins p {r} is s q n h = record {
        some = omega arith;
        below = λ t c.
            let more = rw (← get_or-set_same u i p 0 b, ← get_or-set_same u i q 0 b) at h in
            let m = demand-more ts (set u i q) (set u i p) i r more k below (λ j l. elim (eq-or-ne j i) [
              | inl e ↦ rw (e, get_or-set_same u i p 0 b, get_or-set_same u i q 0 b) (omega arith)
              | inr n ↦ rw (get_or-set_other u i j p 0 n, get_or-set_other u i j q 0 n) (omega arith)
            ]) in
            let tight = rw (← is) at (busy-tight (deadline_at ts (set u i p) k) ts (set u i p) k w (rw (← is) s)) in
            omega (arith, c.covers, m, tight, demand-monotone ts (set u i q) k r t (n.below t c));
      }

  -- and its climbs at a shorter period of task i begin no earlier
  pub shorter-begins : (k : ℕ) {y p t : ℕ} → ((j : ℕ) → j < k → 1 ≤ get_or (set u i y) j 0) → y ≤ p
      → BeginsAt ts u i p k t → BeginsAt ts u i y k t
  shorter-begins k {y} {p} some l b =
      record { some = b.some; below = λ t c. b.below t (covers_up ts (set u i y) (set u i p) k t some (λ j h. set-mono u i l j) c) }

-- a climb may begin at what it leads to
pub busy-begins : (limit : ℕ) (ts : List Task) (xs : List ℕ) (i : ℕ) → 1 ≤ own_demand (task_at ts i)
    → {r : ℕ} → r ≡ busy_up_to limit ts xs i → 1 ≤ r → Begins limit ts xs i r
busy-begins limit ts xs i w is s = record { some = s; below = λ t c. rw is ((busy-exact limit ts xs i w).least t c).1 }
