-- The last period of a task at which deadlines are missed, as the code finds it: what holds in each loop, and one law for each turn.
use mathlib.Core.Path.{◌≡◌, refl, sym, ap, ◌∙◌}
use mathlib.Core.Bool.{true, false, ◌&&◌}
use mathlib.Core.Logic.{inl, inr}
use mathlib.Core.List.{List}
use Prim.Native.Nat.{ℕ, suc, ◌+◌, ◌-◌, ◌≤◌, ◌<◌, max}
use native.Mathlib.Omega.{arith}
use native.Mathlib.Nat.{le_trans}
use lib.Dec.{leb}
use lib.ListN.{length, get_or, set, length-set}
use lib.Seq.{get_or-set_same, set-set}
use borrow.Author.Tests.{lt-leb, le-leb, leb-true}
use Rattle.plan.specs.declared.tasks.Task.{Task}
use Rattle.plan.specs.Tasks.{max_ticks, task_at, Valid}
use Rattle.plan.proofs.Tests.{le-or-lt, eq-or-ne, and_left, and_right}
use Rattle.response.specs.Analysis.{own_demand, deadline_at, busy_period, meets, max_response}
use Rattle.response.specs.Claims.{Covers}
use Rattle.response.specs.Inner.{Limits, Climbs, busy_in_time, last_end_at}
use Rattle.response.proofs.Limits.{limits-set, climbs-within}
use Rattle.response.proofs.Exactness.{own-some, own-begins, busy-early}
use Rattle.response.proofs.Slack.{misses-none}
use Rattle.response.proofs.Sustainable.{covers-above, covers-meets, schedulable-none}
use Rattle.boundary.specs.Misses.{Range, Moved, LastMiss, BeginsAt, settles, Responds, Seeks, SeeksBelow, SeeksFrom}
use Rattle.boundary.specs.Inner.{begin_below}
use Rattle.boundary.proofs.Beginning.{begins-under}
use Rattle.boundary.proofs.OnePeriod.{alike, alike-le, alike-releases, alike-more, deadline-other, own_meets}
use Rattle.boundary.proofs.OnePeriod.{released-covers, released-begins, shorter-begins, busy-begins}

-- changes of period i
module _ {ts : List Task} {i : ℕ} where
  pub moved_length : {u u' : List ℕ} → Limits ts u → Moved ts i u u' → length u' ≡ length u
  moved_length l m = m.limits.sized ∙ sym l.sized

  pub moved_none : {u : List ℕ} → Limits ts u → Moved ts i u u
  moved_none l = record { limits = l; only = λ x. refl }

  pub moved_on : {u u' u'' : List ℕ} → Moved ts i u u' → Moved ts i u' u'' → Moved ts i u u''
  moved_on a b = record { limits = b.limits; only = λ x. b.only x ∙ a.only x }

  moved-set : {u u' : List ℕ} → Moved ts i u u' → (v : ℕ) → 1 ≤ v → v ≤ max_ticks → Moved ts i u (set u' i v)
  moved-set {u} {u'} m v p q =
      record { limits = limits-set m.limits i v p q; only = λ x. set-set u' i v x ∙ m.only x }

  -- what holds of the one holds of the other
  module _ {u u' : List ℕ} (m : Moved ts i u u') where
    moved-deadline : (j : ℕ) → (j ≡ i → ⊥) → deadline_at ts u' j ≡ deadline_at ts u j
    moved-deadline j n =
        sym (deadline-other ts u' i j 0 n) ∙ ap (λ x. deadline_at ts x j) (m.only 0) ∙ deadline-other ts u i j 0 n

    moved-settles : (j own r : ℕ) → (j ≡ i → ⊥) → settles (task_at ts j) (get_or u' j 0) own r ≡ settles (task_at ts j) (get_or u j 0) own r
    moved-settles j own r n = ap (λ d. leb r (d - (task_at ts j).jitter) && leb (task_at ts j).blocking own) (moved-deadline j n)

    range_moved : {low most v : ℕ} → Range ts u i low most → v ≤ most → Range ts u' i v most
    range_moved r h = record {
      limits = m.limits;
      inside = omega (arith, r.inside, moved_length r.limits m);
      order = h;
      ticks = r.ticks;
    }

    last-moved : {k n low most v : ℕ} → LastMiss ts u' i k n low most v → LastMiss ts u i k n low most v
    last-moved {v = v} l = record {
      above = l.above;
      upto = l.upto;
      misses = λ o. rw (m.only v) at (l.misses o);
      past = λ j a b y c d. rw (m.only y) at (l.past j a b y c d);
    }

-- first of the lower tasks, then of those above them
last-join : {ts : List Task} {u : List ℕ} {i j k n low most v x : ℕ}
    → LastMiss ts u i k n low most v → LastMiss ts u i j k v most x → LastMiss ts u i j n low most x
last-join {ts} {u} {i} {j} {k} {n} {low} {most} {v} {x} l m = record {
  above = le_trans l.above m.above;
  upto = m.upto;
  misses = λ o. elim (eq-or-ne v x) [
    | inl e ↦ rw e at (l.misses (rw (sym e) at o))
    | inr e ↦ m.misses (omega (arith, m.above))
  ];
  past = λ t a b y c d. elim (le-or-lt k t) [
    | inl e ↦ l.past t e b y (omega (arith, m.above)) d
    | inr e ↦ m.past t a e y c d
  ];
}

-- probing for the last period of task i at which task k misses its deadline; its climbs end by that, in which period i has no part
pub record Probes (ts : List Task) (u : List ℕ) (i k low most end : ℕ) : Type 0 where
  pub range : Range ts u i low most
  pub below : i < k
  pub inside : k < length u
  pub ends : end ≡ last_end_at ts u k

-- the last found, one from which on a busy period of task k covers, where its climbs right past the last may begin,
-- and where those between the two may
pub record Probing (ts : List Task) (u : List ℕ) (i k low most end : ℕ) (u' : List ℕ) (last high busy begin turn : ℕ) : Type 0 where
  pub given : Probes ts u i k low most end
  pub moved : Moved ts i u u'
  pub above : low ≤ last
  pub upto : last ≤ most
  pub under : high ≤ most + 1
  pub turns : turn + (high - last) ≤ most + 1
  pub misses : low < last → meets ts (set u i last) k ≡ false
  pub covers : (y : ℕ) → high ≤ y → y ≤ most → Covers (deadline_at ts (set u i y) k) ts (set u i y) k busy
  pub begins : (y : ℕ) → last < y → y ≤ most → y ≤ max high (suc last) → BeginsAt ts u i y k busy
  pub between : (y : ℕ) → last < y → y < high → BeginsAt ts u i y k begin

module _ {ts : List Task} {u : List ℕ} {i k low most : ℕ} where
  pub seeks-probes : {start end : ℕ} → Seeks ts u i k low most start → end ≡ last_end_at ts u k → Probes ts u i k low most end
  seeks-probes q e = record { range = q.range; below = q.below; inside = q.inside; ends = e }

  module _ {end : ℕ} (q : Probes ts u i k low most end) where
    k-inside : k < length ts
    k-inside = omega (arith, q.inside, q.range.limits.sized)

    valid-k : Valid (task_at ts k)
    valid-k = q.range.limits.valid k k-inside

    works : 1 ≤ own_demand (task_at ts k)
    works = own-some ts q.range.limits.valid k k-inside

    some-set : (y : ℕ) → 1 ≤ y → y ≤ most → (j : ℕ) → j < k → 1 ≤ get_or (set u i y) j 0
    some-set y a b j h =
        (limits-set q.range.limits i y a (omega (arith, q.range.ticks))).some j (omega (arith, q.inside, length-set u i y))

    shorter : {p t : ℕ} → BeginsAt ts u i p k t → (y : ℕ) → 1 ≤ y → y ≤ most → y ≤ p → BeginsAt ts u i y k t
    shorter b y c d h = shorter-begins ts u i k (some-set y c d) h b

    pub probing-start : {start : ℕ} → BeginsAt ts u i most k start → Probing ts u i k low most end u low (most + 1) start start 0
    probing-start b = record {
      given = q;
      moved = moved_none q.range.limits;
      above = omega arith;
      upto = q.range.order;
      under = omega arith;
      turns = omega arith;
      misses = λ l. let z : ⊥ = omega arith in absurd z;
      covers = λ y c d. let z : ⊥ = omega arith in absurd z;
      begins = λ y c d e. shorter b y (omega arith) d d;
      between = λ y c d. shorter b y (omega arith) (omega arith) (omega arith);
    }

  module _ {end : ℕ} {u' : List ℕ} {last high busy begin turn : ℕ}
      (g : Probing ts u i k low most end u' last high busy begin turn) where
    abbrev q : Probes ts u i k low most end
    q = g.given

    pub probing-end : high ≤ last + 1 → LastMiss ts u i k (suc k) low most last
    probing-end e = record {
      above = g.above;
      upto = g.upto;
      misses = λ l. schedulable-none ts (set u i last) k (k-inside q) (g.misses l);
      past = λ j a b y c d. let z : j ≡ k = omega arith in rw z (covers-meets ts k (valid-k q) (set u i y) (g.covers y (omega arith) d));
    }

    pub probing-responds : high ≤ last + 1 → Responds ts u i k most last busy
    probing-responds e = record {
      begins = λ l. g.begins (suc last) (omega arith) (omega arith) (omega arith);
      meet = λ j a b h y c d.
          let own = own_demand (task_at ts k) in
          let early = leb busy (deadline_at ts u j - (task_at ts j).jitter) in
          let light = leb (task_at ts j).blocking own in
          covers-meets ts j (q.range.limits.valid j (omega (arith, k-inside q))) (set u i y)
          (covers-above ts (set u i y) j k b (some-set q y (omega arith) d) (leb-true _ own (and_right early light h))
          (rw (deadline-other ts u i j y (λ z. omega arith)) (omega (arith, leb-true busy _ (and_left early light h), (g.covers y (omega arith) d).some)))
          (g.covers y (omega arith) d));
    }

    module _ {p : ℕ} (a : (last < p) × (p < high)) where
      pub probing-period : (1 ≤ p) × (p ≤ max_ticks)
      probing-period = (omega arith, omega (arith, g.under, q.range.ticks))

      probing-moved : Moved ts i u (set u' i p)
      probing-moved = moved-set g.moved p probing-period.0 probing-period.1

      fixed : end ≡ last_end_at ts (set u i p) k
      fixed = rw (deadline-other ts u i k p (λ e. omega (arith, q.below))) q.ends

      pub probing-climbs : Climbs end ts (set u' i p) k begin
      probing-climbs =
          let most = (limits-set q.range.limits i p probing-period.0 probing-period.1).most k in
          rw (g.moved.only p, fixed) (climbs-within (k-inside q) (omega (arith, most)) (g.between p a.0 a.1))

      module _ {r : ℕ} (is : r ≡ busy_period end ts (set u' i p) k) where
        busy-is : r ≡ busy_in_time ts (set u i p) k
        busy-is = rw (g.moved.only p, fixed) at is

        pub probing-small : 1 ≤ r → r ≤ max_ticks
        probing-small s =
            let early = busy-early (deadline_at ts (set u i p) k) ts (set u i p) k (works q) (omega (arith, busy-is)) in
            let most = (limits-set q.range.limits i p probing-period.0 probing-period.1).most k in
            omega (arith, busy-is, early, most)

        pub probing-miss : r ≡ 0 → Probing ts u i k low most end (set u' i p) p high busy begin (turn + 1)
        probing-miss e = record {
          given = q;
          moved = probing-moved;
          above = omega (arith, g.above);
          upto = omega (arith, g.under);
          under = g.under;
          turns = omega (arith, g.turns);
          misses = λ l. misses-none ts (set u i p) k (valid-k q) (omega (arith, busy-is));
          covers = g.covers;
          begins = λ y c d h. g.begins y (omega arith) d (omega arith);
          between = λ y c d. g.between y (omega arith) d;
        }

        pub probing-meet : 1 ≤ r
            → Probing ts u i k low most end (set u' i p) last (alike (r + (task_at ts i).jitter) p) r (r + (task_at ts i).wcet) (turn + 1)
        probing-meet s =
            let window = r + (task_at ts i).jitter in
            let some : 1 ≤ window = omega arith in
            let l = alike-le window p some (omega arith) in
            let at = busy-begins _ ts (set u i p) k (works q) busy-is s in record {
              given = q;
              moved = probing-moved;
              above = g.above;
              upto = g.upto;
              under = omega (arith, g.under);
              turns = omega (arith, g.turns);
              misses = g.misses;
              covers = λ y c d.
                  released-covers ts u i q.range.inside k q.below (works q) p busy-is s y
                  (alike-releases window p some (omega arith) y c);
              begins = λ y c d h. shorter q at y (omega arith) d (omega arith);
              between = λ y c d.
                  released-begins ts u i q.range.inside k q.below (works q) p busy-is s y
                  (shorter q at y (omega arith) (omega (arith, g.under)) (omega arith))
                  (alike-more window p some (omega arith) y (omega arith) d);
            }

-- the same of the tasks between task i and task k, from the lowest up: those from task j on are done, and so is every other that the
-- busy period of a task with such an own demand settles
pub record Between (ts : List Task) (u : List ℕ) (i k low most : ℕ) (u' : List ℕ) (last busy own j : ℕ) : Type 0 where
  pub range : Range ts u i low most
  pub inside : k < length u
  pub above : i < j
  pub below : j ≤ k
  pub is : LastMiss ts u i j k low most last
  pub meet : (m : ℕ) → i < m → m < j → settles (task_at ts m) (get_or u m 0) own busy ≡ true
      → (y : ℕ) → last < y → y ≤ most → meets ts (set u i y) m ≡ true
  pub moved : Moved ts i u u'

module _ {ts : List Task} {u : List ℕ} {i k low most : ℕ} where
  module _ {u' : List ℕ} {last busy own j : ℕ} (g : Between ts u i k low most u' last busy own j) (h : suc i < j) where
    between-inside : j - 1 < length u'
    between-inside = omega (arith, g.below, g.inside, moved_length g.range.limits g.moved)

    between-on : {u'' : List ℕ} {v r o : ℕ} → LastMiss ts u i (j - 1) (suc (j - 1)) last most v → Moved ts i u u''
        → ((m : ℕ) → i < m → m < j - 1 → settles (task_at ts m) (get_or u m 0) o r ≡ true
        → (y : ℕ) → v < y → y ≤ most → meets ts (set u i y) m ≡ true)
        → Between ts u i k low most u'' v r o (j - 1)
    between-on l m s = let e : suc (j - 1) ≡ j = omega arith in record {
      range = g.range;
      inside = g.inside;
      above = omega arith;
      below = omega (arith, g.below);
      is = last-join g.is (rw e at l);
      meet = s;
      moved = m;
    }

    pub between-seeks : {o : ℕ} → o ≡ own_demand (task_at ts (j - 1)) → Seeks ts u' i (j - 1) last most o
    between-seeks e = record {
      range = range_moved g.moved g.range g.is.upto;
      below = omega arith;
      inside = between-inside;
      begins = rw e (own-begins _ ts (set u' i most) (j - 1)
          (own-some ts g.range.limits.valid (j - 1) (omega (arith, between-inside, g.moved.limits.sized))));
    }

    pub between-sought : {u'' : List ℕ} {v r : ℕ} → LastMiss ts u' i (j - 1) (suc (j - 1)) last most v
        → Responds ts u' i (j - 1) most v r → Moved ts i u' u'' → {o : ℕ} → o ≡ own_demand (task_at ts (j - 1))
        → Between ts u i k low most u'' v r o (j - 1)
    between-sought {r = r} l s m {o} q = between-on {r = r} {o = o} (last-moved g.moved l) (moved_on g.moved m)
        (λ x a b d y c e. rw (g.moved.only y) at
        (s.meet x a b (moved-settles g.moved x _ r (λ z. omega arith) ∙ rw q at d) y c e))

-- the same of all tasks below task i, the lowest first: its climb right past what is found may begin where one at the
-- greatest period may
pub begins-past : {ts : List Task} {u : List ℕ} {i low most start : ℕ} → Range ts u i low most
    → BeginsAt ts u i most (length u - 1) start → (v : ℕ) → v < most → BeginsAt ts u i (suc v) (length u - 1) start
begins-past {ts} {u} {i} r b v h =
    shorter-begins ts u i (length u - 1)
    (λ j l. (limits-set r.limits i (suc v) (omega arith) (omega (arith, r.ticks))).some j
    (omega (arith, length-set u i (suc v)))) h b

-- the same of task i, too: it meets its deadline from its busy period and its jitter on
module _ {ts : List Task} {u : List ℕ} {i own low most start : ℕ} (q : SeeksFrom ts u i own low most start) where
  i-inside : i < length ts
  i-inside = omega (arith, q.range.inside, q.range.limits.sized)

  i-works : 1 ≤ own_demand (task_at ts i)
  i-works = own-some ts q.range.limits.valid i i-inside

  abbrev jitter : ℕ
  jitter = (task_at ts i).jitter

  own-early : own + jitter ≤ deadline_at ts (set u i most) i
  own-early = rw q.is (busy-early (deadline_at ts (set u i most) i) ts (set u i most) i i-works (rw q.is at q.works))

  own-most : own + jitter ≤ most
  own-most = omega (arith, own-early, get_or-set_same u i most 0 q.range.inside)

  pub from-small : own + (task_at ts i).jitter ≤ max_ticks
  from-small = omega (arith, own-most, q.range.ticks)

  pub from-begins : i < length u - 1 → Valid (task_at ts (length u - 1)) × (own ≤ max_response)
  from-begins h = (q.range.limits.valid (length u - 1) (omega (arith, q.range.limits.sized)), omega (arith, own-most, q.range.ticks))

  lowest-begins : i < length u - 1
      → BeginsAt ts u i most (length u - 1) (begin_below (task_at ts (length u - 1)) (task_at ts i) own)
  lowest-begins h =
      let most-set = limits-set q.range.limits i most (omega (arith, own-most, q.works)) q.range.ticks in
      begins-under q.range.limits.valid (set u i most) (λ k c. most-set.some k (omega (arith, most-set.sized)))
      h (omega (arith, q.range.limits.sized)) own-early
      (busy-begins (deadline_at ts (set u i most) i) ts (set u i most) i i-works q.is q.works)

  pub from-below : {from begin : ℕ} → from ≡ max low (own + (task_at ts i).jitter - 1) → i < length u - 1
      → begin ≡ begin_below (task_at ts (length u - 1)) (task_at ts i) own → SeeksBelow ts u i from most (max start begin)
  from-below {from} {begin} e h b =
      let c = lowest-begins h in
      record {
        range = record {
          limits = q.range.limits;
          inside = q.range.inside;
          order = omega (arith, q.range.order, own-most);
          ticks = q.range.ticks;
        };
        below = h;
        begins = rw b (record { some = omega (arith, c.some); below = λ t d. omega (arith, q.begins.below t d, c.below t d) });
      }

  from-own : (v : ℕ) → v ≤ most → meets ts (set u i v) i ≡ leb (own + jitter) v
  from-own = own_meets ts u i q.range.inside most (q.range.limits.valid i i-inside) q.is q.works

  pub from_last : {from v : ℕ} → from ≡ max low (own + (task_at ts i).jitter - 1)
      → LastMiss ts u i (suc i) (length u) from most v → LastMiss ts u i i (length u) low most v
  from_last {from} {v} f l = record {
    above = omega (arith, l.above);
    upto = l.upto;
    misses = λ h. elim (le-or-lt (own + jitter) v) [
      | inl p ↦ l.misses (omega (arith, q.works))
      | inr p ↦ schedulable-none ts (set u i v) i i-inside (from-own v l.upto ∙ lt-leb (own + jitter) v p)
    ];
    past = λ j a b y c d. elim (eq-or-ne j i) [
      | inl n ↦ rw n (from-own y d ∙ le-leb (own + jitter) y (omega (arith, l.above)))
      | inr n ↦ l.past j (omega arith) b y (omega arith) d
    ];
  }

  -- with no task below
  pub from-alone : {from : ℕ} → from ≡ max low (own + (task_at ts i).jitter - 1) → length u - 1 ≤ i → LastMiss ts u i i (length u) low most from
  from-alone {from} e h = from_last e (record {
    above = omega arith;
    upto = omega (arith, q.range.order, own-most);
    misses = λ l. let z : ⊥ = omega arith in absurd z;
    past = λ j a b. let z : ⊥ = omega arith in absurd z;
  })
