-- The lowering of a node: by its definition, and as the code makes it.
use mathlib.Core.Path.{◌≡◌, refl, sym, ap, ◌∙◌}
use mathlib.Core.Bool.{Bool, true, false}
use mathlib.Core.Logic.{inl, inr}
use mathlib.Core.List.{List}
use Prim.Native.Nat.{ℕ, zero, suc, ◌+◌, ◌-◌, ◌*◌, ◌≤◌, ◌<◌}
use native.Mathlib.Numerals.{add-one}
use native.Mathlib.Omega.{arith}
use native.Mathlib.Nat.{sub-zero, mul-le-mul, mul-le-mul_right}
use lib.ListN.{length, get_or, set, length-set, length-map}
use lib.Seq.{get_or-set_same, get_or-set_other, set-get_or, ext_get_or}
use Rattle.plan.specs.declared.tasks.Task.{Task}
use Rattle.plan.specs.Tasks.{max_tasks, max_ticks, max_weight, task_at, AllValid, period_mins, period_maxs, weights}
use Rattle.plan.proofs.Tests.{bool, le-or-lt, eq-or-ne, both, not-false}
use Rattle.plan.proofs.Valid.{valid-at}
use Rattle.response.specs.Analysis.{own_demand, deadline_at, schedulable, max_response}
use Rattle.response.specs.Assignments.{cost}
use Rattle.response.specs.Claims.{Covers}
use Rattle.response.specs.Inner.{Limits, Begins, busy_in_time}
use Rattle.response.proofs.Dominance.{AtMost, at-least-set, set-mono}
use Rattle.response.proofs.Bounds.{Within, within-true, true-within, within-set, maxs-within}
use Rattle.response.proofs.Exactness.{own-some, own-begins, busy-early}
use Rattle.response.proofs.Ranges.{ranged, weight-at, light, some-within, limits-within, sustainable-within}
use Rattle.response.proofs.Order.{cost-mono, cost-longer, cost-most}
use Rattle.response.proofs.Demand.{demand-same}
use Rattle.response.proofs.Sustainable.{meets-covers, schedulable-all, all-schedulable}
use Rattle.response.proofs.Sustainable.{meets-set as meets-other}
use Rattle.boundary.specs.Lowering.{lowered_from, lowered, lowering_from, lowering}
use Rattle.boundary.specs.Misses.{Moved, LastMiss, BeginsAt, SeeksFrom}
use Rattle.boundary.specs.Inner.{LowersNode, LowersUpTo, Lowers, begin_at}
use Rattle.boundary.proofs.Beginning.{begins-next}
use Rattle.boundary.proofs.OnePeriod.{busy-begins}

-- a schedulable assignment within the bounds, at least the node
pub record Meets (ts : List Task) (test : List ℕ → Bool) (node x : List ℕ) : Type 0 where
  pub within : Within ts x
  pub above : AtMost node x
  pub met : test x ≡ true

-- lowering keeps it so
module _ {ts : List Task} (test : List ℕ → Bool) {node : List ℕ} (w : Within ts node) where
  meets-set : {x : List ℕ} → Meets ts test node x → (i v : ℕ) → get_or node i 0 ≤ v → v ≤ get_or x i 0 → test (set x i v) ≡ true
      → Meets ts test node (set x i v)
  meets-set {x} m i v p q t = record {
    within = within-set m.within i v (omega (arith, w.low i)) (omega (arith, m.within.high i));
    above = at-least-set x node i m.above p;
    met = t;
  }

  lowered_from_lem : {x : List ℕ} → Meets ts test node x → (i left v : ℕ) → get_or node i 0 ≤ v → v + left ≤ suc (get_or x i 0)
      → Meets ts test node (lowered_from left test x i v)
  lowered_from_lem m i zero v p q = m
  lowered_from_lem {x} m i (suc left) v p q = elim (bool (test (set x i v))) [
    | inl t ↦ rw (t, lowered_from) (meets-set m i v p (omega arith) t)
    | inr t ↦ rw (t, lowered_from) (lowered_from_lem m i left (suc v) (omega arith) (omega arith))
  ]

  lowering_from-meets : (left i : ℕ) {x : List ℕ} → Meets ts test node x → Meets ts test node (lowering_from left test node x i)
  lowering_from-meets zero i m = m
  lowering_from-meets (suc left) i {x} m =
      lowering_from-meets left (suc i)
      (lowered_from_lem m i (suc (get_or x i 0 - get_or node i 0)) (get_or node i 0) (omega arith) (omega (arith, m.above i)))

  -- the longest periods
  longest-meets : AtMost (period_mins ts) (period_maxs ts) → test (period_maxs ts) ≡ true → Meets ts test node (period_maxs ts)
  longest-meets r t = record { within = maxs-within ts r; above = w.high; met = t }

  pub lowering-meets : AtMost (period_mins ts) (period_maxs ts) → test (period_maxs ts) ≡ true
      → Meets ts test node (lowering test (period_maxs ts) node)
  unfolding lowering
  lowering-meets r t = lowering_from-meets (length node) 0 (longest-meets r t)

-- what is at most the present periods, and at most the node's from task i on, is at most the lowering
module _ (test : List ℕ → Bool) (node m : List ℕ) where
  lowered-over : (x : List ℕ) → AtMost m x → (i left v : ℕ) → get_or m i 0 ≤ v → AtMost m (lowered_from left test x i v)
  lowered-over x a i zero v h = a
  lowered-over x a i (suc left) v h = elim (bool (test (set x i v))) [
    | inl t ↦ rw (t, lowered_from) (at-least-set x m i a h)
    | inr t ↦ rw (t, lowered_from) (lowered-over x a i left (suc v) (omega arith))
  ]

  lowering-over : (left i : ℕ) (x : List ℕ) → AtMost m x → ((j : ℕ) → i ≤ j → get_or m j 0 ≤ get_or node j 0)
      → AtMost m (lowering_from left test node x i)
  lowering-over zero i x a h = a
  lowering-over (suc left) i x a h =
      lowering-over left (suc i) (lowered test node x i)
      (lowered-over x a i (suc (get_or x i 0 - get_or node i 0)) (get_or node i 0) (h i (omega arith))) (λ j l. h j (omega arith))

-- lowering scans up from the node's period: it finds the value that passes while all below fail
module _ (test : List ℕ → Bool) (node x : List ℕ) (i v : ℕ) (e : test (set x i v) ≡ true) where
  lowered_from-is : (left y : ℕ) → y ≤ v → v < y + left → ((z : ℕ) → y ≤ z → z < v → test (set x i z) ≡ false)
      → lowered_from left test x i y ≡ set x i v
  lowered_from-is zero y a b h = let z : ⊥ = omega arith in absurd z
  lowered_from-is (suc left) y a b h = elim (eq-or-ne y v) [
    | inl q ↦ let t : test (set x i y) ≡ true = rw q e in rw (t, lowered_from) (rw q)
    | inr q ↦ rw (h y (omega arith) (omega arith), lowered_from)
        (lowered_from-is left (suc y) (omega arith) (omega arith) (λ z c d. h z (omega arith) d))
  ]

  pub lowered_is : get_or node i 0 ≤ v → v ≤ get_or x i 0
      → ((z : ℕ) → get_or node i 0 ≤ z → z < v → test (set x i z) ≡ false) → lowered test node x i ≡ set x i v
  lowered_is a b h = lowered_from-is (suc (get_or x i 0 - get_or node i 0)) (get_or node i 0) a (omega arith) h

-- from the longest periods
pub lowers-node : {ts : List Task} → AllValid ts → {node : List ℕ} → LowersNode ts node → Lowers ts node (period_maxs ts)
lowers-node {ts} v {node} h = record {
  given = h;
  within = true-within ts (period_maxs ts) (maxs-within ts (ranged ts v));
  above = (within-true ts node h.bounded).high;
  met = h.top;
}

pub lowering-node-is : (ts : List Task) (node : List ℕ)
    → lowering_from (length node) (schedulable ts) node (period_maxs ts) 0 ≡ lowering (schedulable ts) (period_maxs ts) node
unfolding lowering
lowering-node-is ts node = refl

-- as the code lowers the periods x of the tasks from task i on; own is the busy period of the task above, and the climbs of the
-- lowest may begin at start; fixed has the periods that are lowered and the node's from task i on
pub record Lowering (ts : List Task) (node goal : List ℕ) (i : ℕ) (x : List ℕ) (total own start : ℕ) : Type 0 where
  pub valid : AllValid ts
  pub few : length ts ≤ max_tasks
  pub bounded : Within ts node
  pub meets : Meets ts (schedulable ts) node x
  pub upto : i ≤ length ts
  pub early : own ≤ max_response
  pub begins : i < length ts → Begins (deadline_at ts x i) ts x i (begin_at ts i own)
  pub lowest : Begins (deadline_at ts x (length x - 1)) ts x (length x - 1) start
  pub leads : lowering_from (length node - i) (schedulable ts) node x i ≡ goal
  pub fixed : List ℕ
  pub long : length fixed ≡ length ts
  pub done : (j : ℕ) → j < i → get_or fixed j 0 ≡ get_or x j 0
  pub rest : (j : ℕ) → i ≤ j → get_or fixed j 0 ≡ get_or node j 0
  pub costs : total ≡ cost (weights ts) fixed

module _ {ts : List Task} {node : List ℕ} where
  pub lowering-start : 1 ≤ length ts → length ts ≤ max_tasks → AllValid ts → {x : List ℕ} → Lowers ts node x
      → {own : ℕ} → own ≡ own_demand (task_at ts (length ts - 1))
      → {c : ℕ} → c ≡ cost (weights ts) node → Lowering ts node (lowering_from (length node) (schedulable ts) node x 0) 0 x c 0 own
  lowering-start s few v {x} h e ec =
      let w = within-true ts x h.within in
      record {
        valid = v;
        few = few;
        bounded = within-true ts node h.given.bounded;
        meets = record { within = w; above = h.above; met = h.met };
        upto = omega arith;
        early = omega arith;
        begins = λ l. own-begins _ ts x 0 (own-some ts v 0 l);
        lowest = rw (w.sized, e) (own-begins _ ts x (length ts - 1) (own-some ts v (length ts - 1) (omega (arith, s))));
        leads = rw (sub-zero (length node));
        fixed = node;
        long = (within-true ts node h.given.bounded).sized;
        done = λ j l. let z : ⊥ = omega arith in absurd z;
        rest = λ j l. refl;
        costs = ec;
      }

  module _ {goal : List ℕ} {i : ℕ} {x : List ℕ} {total own start : ℕ} (g : Lowering ts node goal i x total own start) where
    pub lowering-limits : Limits ts x
    lowering-limits = limits-within ts g.valid g.meets.within g.few

    under : AtMost g.fixed x
    under j = elim (le-or-lt i j) [ inl h ↦ omega (arith, g.rest j h, g.meets.above j) | inr h ↦ omega (arith, g.done j h) ]

    goal-sized : length goal ≡ length ts
    goal-sized =
        rw (← g.leads) (lowering_from-meets (schedulable ts) g.bounded (length node - i) i g.meets).within.sized

    -- so their cost is a lower bound
    total-under : total ≤ cost (weights ts) goal
    total-under =
        let a = lowering-over (schedulable ts) node g.fixed (length node - i) i x under (λ j h. omega (arith, g.rest j h)) in
        rw g.costs (cost-mono (weights ts) g.fixed goal (g.long ∙ sym goal-sized) (rw g.leads at a))

    pub total-small : total ≤ max_tasks * (max_weight * max_ticks)
    total-small =
        let few : length g.fixed ≤ max_tasks = omega (arith, g.long, g.few) in
        let m = cost-most (weights ts) g.fixed max_weight max_ticks (light ts g.valid)
        (λ k. omega (arith, under k, (limits-within ts g.valid g.meets.within g.few).most k)) in
        omega (arith, g.costs, mul-le-mul_right (max_weight * max_ticks) few)

    pub lowers-past : {limit : ℕ} → limit < total → LowersUpTo (weights ts) goal limit x total
    lowers-past h = record {
      sized = g.meets.within.sized ∙ sym goal-sized;
      is = λ l. let z : ⊥ = omega arith in absurd z;
      past = λ l. omega (arith, total-under);
    }

    pub lowering-end : length node ≤ i → {limit : ℕ} → LowersUpTo (weights ts) goal limit x total
    lowering-end h =
        let z : length node - i ≡ 0 = omega (arith, g.meets.within.sized, g.bounded.sized) in
        let e : x ≡ goal = rw z at g.leads in
        let f : g.fixed ≡ x = ext_get_or 0 g.fixed x (g.long ∙ sym g.meets.within.sized) (λ k l. g.done k (omega (arith, g.long, g.meets.within.sized))) in
        record {
          sized = g.meets.within.sized ∙ sym goal-sized;
          is = λ l. (e, g.costs ∙ ap (cost (weights ts)) (f ∙ e));
          past = λ l. omega (arith, total-under);
        }

    module _ (l : i < length node) where
      i-inside : i < length ts
      i-inside = omega (arith, g.bounded.sized)

      i-works : 1 ≤ own_demand (task_at ts i)
      i-works = own-some ts g.valid i i-inside

      pub node-some : 1 ≤ get_or node i 0
      node-some = some-within ts g.valid g.bounded i i-inside

      inside : i < length x
      inside = omega (arith, i-inside, g.meets.within.sized)

      here : i < length g.fixed
      here = omega (arith, i-inside, g.long)

      pub lowering-responds : 1 ≤ busy_in_time ts x i
      lowering-responds = (meets-covers ts i (g.valid i i-inside) x (schedulable-all ts x g.meets.met i i-inside)).some

      module _ {r : ℕ} (is : r ≡ busy_in_time ts x i) where
        some : 1 ≤ r
        some = rw is lowering-responds

        early : r + (task_at ts i).jitter ≤ deadline_at ts x i
        early = rw is (busy-early (deadline_at ts x i) ts x i i-works lowering-responds)

        pub lowering-seeks : SeeksFrom ts x i r (get_or node i 0 - 1) (get_or x i 0) start
        lowering-seeks = record {
          range = record {
            limits = lowering-limits;
            inside = inside;
            order = omega (arith, g.meets.above i);
            ticks = lowering-limits.most i;
          };
          begins = rw (set-get_or x i 0) g.lowest;
          works = some;
          is = rw (set-get_or x i 0) is;
        }

        module _ {v : ℕ} (m : LastMiss ts x i i (length x) (get_or node i 0 - 1) (get_or x i 0) v) where
          -- the present period meets all deadlines
          pub last-below : v < get_or x i 0
          last-below = elim (le-or-lt (get_or x i 0) v) [
            | inl h ↦ let z : v ≡ get_or x i 0 = omega (arith, m.upto) in
                absurd (both g.meets.met (rw (z, set-get_or x i 0) at (m.misses (omega (arith, g.meets.above i, node-some)))))
            | inr h ↦ h
          ]

          passes : schedulable ts (set x i (suc v)) ≡ true
          passes = all-schedulable ts (set x i (suc v)) (λ j h. elim (le-or-lt i j) [
            | inl e ↦ m.past j e (omega (arith, g.meets.within.sized)) (suc v) (omega arith) last-below
            | inr e ↦ meets-other ts x j i (suc v) e ∙ schedulable-all ts x g.meets.met j h
          ])

          above : get_or node i 0 ≤ suc v
          above = omega (arith, m.above)

          -- what the step adds to the cost
          pub step_small : {w : ℕ} → w ≡ (task_at ts i).weight → w * (v + 1 - get_or node i 0) ≤ max_weight * max_ticks
          step_small e =
              mul-le-mul {n₂ = max_weight} {m₂ = max_ticks}
              (omega (arith, e, (valid-at ts g.valid i).weight_most)) (omega (arith, last-below, lowering-limits.most i))

          then : Meets ts (schedulable ts) node (set x i (suc v))
          then = meets-set (schedulable ts) g.bounded g.meets i (suc v) above last-below passes

          fails : (y : ℕ) → get_or node i 0 ≤ y → y < suc v → schedulable ts (set x i y) ≡ false
          fails y c d = not-false (λ e.
              let w = within-set g.meets.within i y (omega (arith, g.bounded.low i)) (omega (arith, last-below, g.meets.within.high i)) in
              both (sustainable-within ts g.valid w (set x i v) (set-mono x i (omega arith)) e) (m.misses (omega (arith, node-some))))

          longer : {w d : ℕ} → w ≡ (task_at ts i).weight → d ≡ suc v - get_or node i 0
              → total + w * d ≡ cost (weights ts) (set g.fixed i (suc v))
          longer {d = d} ew ed =
              let y : suc v ≡ get_or g.fixed i 0 + d = omega (arith, g.rest i (omega arith), above) in
              let c = cost-longer (weights ts) g.fixed i d (omega (arith, i-inside, length-map ts (λ t. t.weight))) here in
              rw (g.costs, ew, ← weight-at ts i) (sym (rw (← y) at c))

          pub lowering-on : {s : ℕ} {x' : List ℕ} → (v < get_or x i 0 → BeginsAt ts x i (suc v) (length x - 1) s) → Moved ts i x x'
              → {w d : ℕ} → w ≡ (task_at ts i).weight → d ≡ v + 1 - get_or node i 0
              → Lowering ts node goal (i + 1) (set x' i (v + 1)) (total + w * d) r s
          lowering-on b o ew ed =
              let z : length node - i ≡ suc (length node - suc i) = omega (arith, l) in
              rw (add-one v, add-one i, o.only (suc v)) (record {
                valid = g.valid;
                few = g.few;
                bounded = g.bounded;
                meets = then;
                upto = i-inside;
                early = omega (arith, early, lowering-limits.most i);
                begins = λ h. begins-next g.valid (set x i (suc v)) (some-within ts g.valid then.within) h early
                    (record { some = some; below = λ t c. own-least t c });
                lowest = rw (length-set x i (suc v)) (b last-below);
                leads =
                    rw (← lowered_is (schedulable ts) node x i (suc v) passes above last-below fails) (rw z at g.leads);
                fixed = set g.fixed i (suc v);
                long = length-set g.fixed i (suc v) ∙ g.long;
                done = λ j h. elim (eq-or-ne j i) [
                  | inl q ↦ rw (q, get_or-set_same g.fixed i (suc v) 0 here, get_or-set_same x i (suc v) 0 inside) refl
                  | inr q ↦ rw (get_or-set_other g.fixed i j (suc v) 0 q, get_or-set_other x i j (suc v) 0 q) (g.done j (omega arith))
                ];
                rest = λ j h. get_or-set_other g.fixed i j (suc v) 0 (λ q. omega arith) ∙ g.rest j (omega arith);
                costs = longer ew (ed ∙ ap (λ y. y - get_or node i 0) (add-one v));
              })
            where
              own-least : (t : ℕ) → Covers (deadline_at ts x i) ts (set x i (suc v)) i t → r ≤ t
              own-least t c =
                  (busy-begins (deadline_at ts x i) ts x i i-works is some).below t (record {
                    some = c.some;
                    early = c.early;
                    covers = omega (
                      arith,
                      c.covers,
                      demand-same ts (set x i (suc v)) x i t
                          (λ k h. get_or-set_other x i k (suc v) 0 (λ e. omega arith)),
                    );
                  })
