-- The maximal unschedulable assignment as the code makes it: what holds while it is raised, and one law for each turn.
use mathlib.Core.Path.{◌≡◌, refl, sym, ◌∙◌}
use mathlib.Core.Bool.{true, false}
use mathlib.Core.Logic.{inl, inr}
use mathlib.Core.List.{List}
use Prim.Native.Nat.{ℕ, zero, suc, ◌+◌, ◌-◌, ◌≤◌, ◌<◌}
use native.Mathlib.Numerals.{add-one}
use native.Mathlib.Omega.{arith}
use native.Mathlib.Nat.{sub-zero}
use lib.Dec.{leb}
use lib.ListN.{length, get_or, set, length-set}
use lib.Seq.{set-set, set-get_or}
use borrow.Author.Tests.{lt-leb, le-leb, leb-false}
use Rattle.std.specs.Prelude.{Option, Some, None}
use Rattle.std.specs.Bool.{then_some}
use Rattle.plan.specs.declared.tasks.Task.{Task}
use Rattle.plan.specs.Tasks.{max_ticks, task_at, period_maxs}
use Rattle.plan.proofs.Tests.{le-or-lt, eq-or-ne}
use Rattle.plan.proofs.Valid.{valid-at}
use Rattle.response.specs.Analysis.{own_demand, deadline_at, first_meet, schedulable, max_response}
use Rattle.response.specs.Inner.{some_time, Limits, busy_in_time}
use Rattle.response.proofs.Limits.{limits-set}
use Rattle.response.proofs.Exactness.{own-some, own-begins, busy-early, some-time}
use Rattle.response.proofs.Slack.{meets-in-time, meets-responds, misses-none}
use Rattle.response.proofs.Dominance.{set-at-most}
use Rattle.response.proofs.Ranges.{max-at}
use Rattle.response.proofs.Sustainable.{meets-set, first-all, all-schedulable, schedulable-none}
use Rattle.boundary.specs.Mua.{mua_from, mua}
use Rattle.boundary.specs.Misses.{Moved, LastMiss, BeginsAt, SeeksFrom}
use Rattle.boundary.specs.Inner.{begin_at, BeginsBelow}
use Rattle.boundary.specs.Raising.{Unschedulable, Raises, Raised}
use Rattle.boundary.proofs.Maximal.{raised_is}
use Rattle.response.proofs.Found.{found-none, found-some}
use Rattle.boundary.proofs.Beginning.{begins-next}
use Rattle.boundary.proofs.OnePeriod.{busy-other, busy-begins, own_meets, own_busy}

-- raising one period
module _ (ts : List Task) (u : List ℕ) where
  first-set : (i v m : ℕ) → m ≤ i → first_meet ts (set u i v) m ≡ first_meet ts u m
  first-set i v zero h = refl
  first-set i v (suc m) h = rw (first-set i v m (omega arith), meets-set ts u m i v h)

  first-none : (m n : ℕ) → m ≤ n → first_meet ts u m ≡ false → first_meet ts u n ≡ false
  first-none m zero h e = let z : m ≡ 0 = omega arith in rw z at e
  first-none m (suc n) h e = elim (eq-or-ne m (suc n)) [ inl q ↦ rw q at e | inr q ↦ rw (first-none m n (omega arith) e) ]

  first-fails : (m : ℕ) → m ≤ length ts → first_meet ts u m ≡ false → schedulable ts u ≡ false
  unfolding schedulable
  first-fails m h e = first-none m (length ts) h e

  -- to the top
  raised-top : (i : ℕ) {most : ℕ} → get_or u i 0 ≤ most → schedulable ts (set u i most) ≡ false → Raised ts u i most (set u i most)
  raised-top i {most} h e = record {
    value = most;
    is = refl;
    above = h;
    upto = omega arith;
    fails = e;
    past = λ y c d. let z : ⊥ = omega arith in absurd z;
  }

module _ {ts : List Task} {u : List ℕ} {i most begin : ℕ} (h : Raises ts u i most begin) where
  raises-limits : Limits ts (set u i most)
  raises-limits = let r = h.range in limits-set r.limits i most (omega (arith, r.limits.some i r.inside, r.order)) r.ticks

  inside : i < length ts
  inside = omega (arith, h.range.inside, h.range.limits.sized)

  pub raised-most : busy_in_time ts (set u i most) i ≡ 0 → Raised ts u i most (set u i most)
  raised-most e =
      let r = h.range in
      let m = misses-none ts (set u i most) i (raises-limits.valid i inside) e in
      raised-top ts u i r.order (schedulable-none ts (set u i most) i inside m)

  module _ {own : ℕ} (is : own ≡ busy_in_time ts (set u i most) i) (s : 1 ≤ own) where
    pub raises-small : own + (task_at ts i).jitter ≤ max_ticks
    raises-small =
        let d = deadline_at ts (set u i most) i in
        let w = own-some ts raises-limits.valid i inside in
        omega (arith, is, busy-early d ts (set u i most) i w (rw is at s), raises-limits.most i)

    pub raises-seeks : {start : ℕ} → start ≡ own_demand (task_at ts (length ts - 1))
        → SeeksFrom ts (set u i most) i own (get_or u i 0) most start
    raises-seeks e = record {
      range = record {
        limits = raises-limits;
        inside = omega (arith, length-set u i most, h.range.inside);
        order = h.range.order;
        ticks = h.range.ticks;
      };
      begins = rw (set-set u i most most, raises-limits.sized, e) (own-begins _ ts (set u i most) (length ts - 1)
          (own-some ts raises-limits.valid (length ts - 1) (omega (arith, h.range.inside, h.range.limits.sized))));
      works = s;
      is = rw (set-set u i most most) is;
    }

    pub raised-last : {u' : List ℕ} {v : ℕ}
        → LastMiss ts (set u i most) i i (length (set u i most)) (get_or u i 0) most v → Moved ts i (set u i most) u'
        → Raised ts u i most (set u' i v)
        × (then_some (leb (own + (task_at ts i).jitter) v) own ≡ some_time (busy_in_time ts (set u' i v) i))
    raised-last {u'} {v} l m =
        let ends = own + (task_at ts i).jitter in
        let once : (y : ℕ) → set (set u i most) i y ≡ set u i y = λ y. set-set u i most y in
        let w = own-some ts h.range.limits.valid i inside in
        rw (m.only v ∙ once v) (
          record {
            value = v;
            is = refl;
            above = l.above;
            upto = l.upto;
            fails = elim (eq-or-ne (get_or u i 0) v) [
              | inl e ↦ rw (← e, set-get_or u i 0) h.fails
              | inr e ↦ rw (once v) at (l.misses (omega (arith, l.above)))
            ];
            past = λ y c d. all-schedulable ts (set u i y) (λ j b. elim (le-or-lt i j) [
              | inl e ↦ rw (once y) at (l.past j e (omega (arith, length-set u i most, h.range.limits.sized)) y c d)
              | inr e ↦ meets-set ts u j i y e ∙ first-all ts u i h.above j e
            ]);
          },
          elim (le-or-lt ends v) [
            | inl e ↦ rw (le-leb ends v e, own_busy ts u i h.range.inside most w is s v l.upto e) (some-time own s)
            | inr e ↦
                let valid = h.range.limits.valid i inside in
                let z = own_meets ts u i h.range.inside most valid is s v l.upto ∙ lt-leb ends v e in
                let t = busy_in_time ts (set u i v) i in
                let none : t ≡ 0 = omega (arith, leb-false 1 t (sym (meets-in-time ts (set u i v) i valid) ∙ z)) in
                rw (lt-leb ends v e, none) refl
          ],
        )

-- the tasks above task i meet their deadlines, the last of them at a time, by which the climb of task i may begin
pub record Met (ts : List Task) (u : List ℕ) (i r : ℕ) : Type 0 where
  pub all : first_meet ts u i ≡ true
  pub early : r ≤ max_response
  pub begins : i < length ts → BeginsAt ts u i (task_at ts i).period_max i (begin_at ts i r)

-- raising all in turn: u is what the code has before task i, and the busy period of the task above, none where a task
-- above misses its deadline
pub record Raising (ts : List Task) (node : List ℕ) (i : ℕ) (u : List ℕ) (busy : Option ℕ) : Type 0 where
  pub held : Unschedulable ts u
  pub sized : length u ≡ length node
  pub above : i ≤ length node
  pub met : (r : ℕ) → busy ≡ Some r → Met ts u i r
  pub missed : busy ≡ None → first_meet ts u i ≡ false
  pub leads : mua_from (length node - i) (schedulable ts) (period_maxs ts) u i ≡ mua (schedulable ts) (period_maxs ts) node

module _ {ts : List Task} {node : List ℕ} where
  pub raising-start : Unschedulable ts node → Raising ts node 0 node (Some 0)
  unfolding mua
  raising-start h = record {
    held = h;
    sized = refl;
    above = omega arith;
    met = λ r e. let z : r ≡ 0 = cc in rw z (record {
      all = refl;
      early = omega arith;
      begins = λ l. own-begins _ ts (set node 0 (task_at ts 0).period_max) 0 (own-some ts h.limits.valid 0 l);
    });
    missed = λ e. absurd (cc);
    leads = rw (sub-zero (length node));
  }

  module _ {i : ℕ} {u : List ℕ} {busy : Option ℕ} (g : Raising ts node i u busy) where
    pub raising-early : {r : ℕ} → busy ≡ Some r → i < length ts → BeginsBelow ts i r
    raising-early e l = record { inside = l; early = (g.met _ e).early }

    module _ (l : i < length ts) where
      abbrev most : ℕ
      most = (task_at ts i).period_max

      top : most ≡ get_or (period_maxs ts) i 0
      top = sym (max-at ts i)

      ticks : most ≤ max_ticks
      ticks = (valid-at ts g.held.limits.valid i).max_most

      within : i < length u
      within = omega (arith, l, g.held.limits.sized)

      pub raising-raises : {r : ℕ} → busy ≡ Some r → Raises ts u i most (begin_at ts i r)
      raising-raises {r} e =
          let m = g.met r e in
          record {
            range = record {
              limits = g.held.limits;
              inside = within;
              order = omega (arith, g.held.high i, top);
              ticks = ticks;
            };
            fails = g.held.fails;
            above = m.all;
            begins = m.begins l;
          }

      raised-limits : {u' : List ℕ} → Raised ts u i most u' → Limits ts u'
      raised-limits d = let v = g.held.limits in
          rw d.is (limits-set v i d.value (omega (arith, d.above, v.some i within)) (omega (arith, d.upto, ticks)))

      met-next : {u' : List ℕ} → Raised ts u i most u' → first_meet ts u' i ≡ true → {t : ℕ}
          → (t ≡ busy_in_time ts u' i) × (1 ≤ t) → Met ts u' (suc i) t
      met-next {u'} d all {t} q =
          let v = raised-limits d in
          let w = own-some ts v.valid i l in
          let early = busy-early (deadline_at ts u' i) ts u' i w (rw q.0 at q.1) in
          record {
            all = rw (all, meets-responds ts u' i (v.valid i l) (omega (arith, q.0, q.1))) refl;
            early = omega (arith, early, q.0, v.most i);
            begins = λ h.
                let next = v.valid (suc i) h in
                let x = set u' (suc i) (task_at ts (suc i)).period_max in
                let some = limits-set v (suc i) (task_at ts (suc i)).period_max (omega (arith, next.min_some, next.ordered)) next.max_most in
                let is : t ≡ busy_in_time ts x i = q.0 ∙ sym (busy-other ts u' (suc i) i _ (omega arith)) in
                begins-next v.valid x (λ k c. some.some k (omega (arith, some.sized))) h
                (omega (arith, is, busy-early (deadline_at ts x i) ts x i w (rw is at q.1)))
                (busy-begins (deadline_at ts x i) ts x i w is q.1);
          }

      raising-on : {u' : List ℕ} {busy' : Option ℕ} → Raised ts u i most u'
          → ((r : ℕ) → busy' ≡ Some r → Met ts u' (suc i) r) → (busy' ≡ None → first_meet ts u' (suc i) ≡ false)
          → Raising ts node (i + 1) u' busy'
      raising-on {u'} r m n =
          let z : length node - i ≡ suc (length node - suc i) = omega (arith, within, g.sized) in
          let f : schedulable ts (set u i r.value) ≡ false = rw r.is at r.fails in
          let under : r.value ≤ get_or (period_maxs ts) i 0 = omega (arith, r.upto, top) in
          let h = g.held in
          rw (add-one i) (record {
            held = rw r.is (record {
              limits = limits-set h.limits i r.value
                  (omega (arith, r.above, h.limits.some i within)) (omega (arith, r.upto, ticks));
              high = set-at-most u (period_maxs ts) i h.high under;
              fails = f;
            });
            sized = rw r.is (omega (arith, g.sized, length-set u i r.value));
            above = omega (arith, within, g.sized);
            met = m;
            missed = n;
            leads = rw r.is (
                rw (← raised_is (schedulable ts) u i r.value f (period_maxs ts) r.above under (rw top at r.past))
                (rw z at g.leads));
          })

      pub raising-met : {u' : List ℕ} {r : ℕ} → busy ≡ Some r → Raised ts u i most u' → {busy' : Option ℕ}
          → busy' ≡ some_time (busy_in_time ts u' i) → Raising ts node (i + 1) u' busy'
      raising-met {u'} {r} e d is =
          let all : first_meet ts u' i ≡ true = rw d.is (first-set ts u i d.value i (omega arith) ∙ (g.met r e).all) in
          raising-on d
          (λ t f. met-next d all (found-some _ (sym is ∙ f)))
          (λ f. rw (all, misses-none ts u' i ((raised-limits d).valid i l) (found-none _ (sym is ∙ f))) refl)

      pub raising-missed : busy ≡ None → Raising ts node (i + 1) (set u i most) busy
      raising-missed n =
          let f : first_meet ts (set u i most) i ≡ false = first-set ts u i most i (omega arith) ∙ g.missed n in
          let h = g.held in
          raising-on
          (raised-top ts u i (omega (arith, h.high i, top)) (first-fails ts (set u i most) i (omega (arith, l)) f))
          (λ r e. absurd (let z : None ≡ Some r = sym n ∙ e in cc))
          (λ e. rw f refl)
