-- Which children of a node an open node q drops: a child is the node with one period raised, so it dominates q where q exceeds the
-- node nowhere else.
use mathlib.Core.Logic.{inl, inr, ◌≢◌}
use mathlib.Core.Path.{◌≡◌, sym, ◌∙◌, subst}
use mathlib.Core.Bool.{Bool, true, false, ◌||◌, or-true, or-false, or_assoc}
use mathlib.Core.List.{List, []}
use Prim.Native.Nat.{ℕ, suc, ◌+◌, ◌-◌, ◌≤◌, ◌<◌}
use native.Mathlib.Numerals.{add-one}
use native.Mathlib.Omega.{arith}
use lib.Dec.{eqb}
use lib.ListN.{length, get_or, set, drop, replicate, length-set, drop_of_length-le, get_or-replicate, get_or-eq_default}
use lib.Seq.{get_or-set_same, get_or-set_other, drop-cons}
use borrow.Author.Count.{below_more}
use borrow.Author.Tests.{eqb-true, eqb-false}
use Rattle.plan.proofs.Tests.{bool, le-or-lt, eq-or-ne}
use Rattle.response.specs.Assignments.{dominates}
use Rattle.response.proofs.Dominance.{at-most-dominates, not-dominates}
use Rattle.optimizer.specs.Nodes.{dominates_some}
use Rattle.optimizer.specs.Search.{child}
use Rattle.optimizer.specs.Inner.{open_nodes, Above, drops, in_range, DroppedBy, Expands, Dropped}
use Rattle.optimizer.specs.declared.children.Drops.{Drops}
use Rattle.optimizer.specs.declared.children.Drops.TheVariants.{All, One, Nothing}
use Rattle.optimizer.specs.declared.nodes.OpenNodes.{OpenNodes}
use Rattle.optimizer.proofs.Space.{nodes-at}
use Rattle.optimizer.proofs.Scans.{weights_of, node_of, listed-long}

-- q exceeds the node at a place of the first i, and nowhere else
pub record Once (q node : List ℕ) (at i : ℕ) : Type 0 where
  pub inside : at < i
  pub more : get_or node at 0 < get_or q at 0
  pub only : (j : ℕ) → j < i → j ≢ at → get_or q j 0 ≤ get_or node j 0

-- how often q exceeds the node among the first i places
pub data Over (q node : List ℕ) (times i : ℕ) : Type 0 where
  nowhere : times ≡ 0 → ((j : ℕ) → j < i → get_or q j 0 ≤ get_or node j 0) → Over q node times i
  once : {at : ℕ} → times ≡ 1 → Once q node at i → Over q node times i
  twice : {k l : ℕ} → 1 < times → k < l → l < i → get_or node k 0 < get_or q k 0 → get_or node l 0 < get_or q l 0 → Over q node times i

pub record Counted (q node : List ℕ) (times i : ℕ) : Type 0 where
  pub few : times ≤ i
  pub upto : i ≤ length node
  pub is : Over q node times i

module _ {q node : List ℕ} where
  over-here : {times i : ℕ} → Over q node times i → get_or node i 0 < get_or q i 0 → Over q node (times + 1) (i + 1)
  over-here (nowhere z f) h = once (omega arith) (record { inside = omega arith; more = h; only = λ j l x. f j (omega arith) })
  over-here (once z o) h = twice (omega arith) o.inside (omega arith) o.more h
  over-here (twice z k l m o) h = twice (omega arith) k (omega arith) m o

  over-not : {times i : ℕ} → Over q node times i → get_or q i 0 ≤ get_or node i 0 → Over q node times (i + 1)
  over-not (nowhere z f) h = nowhere z (below_more _ _ f h)
  over-not (once z o) h = once z (record { inside = omega (arith, o.inside); more = o.more; only = below_more _ _ o.only (λ x. h) })
  over-not (twice z k l m o) h = twice z k (omega arith) m o

  module _ {times i : ℕ} (x : Counted q node times i) (h : i < length node) where
    pub count-here : get_or node i 0 < get_or q i 0 → Counted q node (times + 1) (i + 1)
    count-here m = record { few = omega (arith, x.few); upto = omega arith; is = over-here x.is m }

    pub count-not : get_or q i 0 ≤ get_or node i 0 → Counted q node times (i + 1)
    count-not m = record { few = omega (arith, x.few); upto = omega arith; is = over-not x.is m }

  -- at most one place, which is known
  pub only-once : {times i at : ℕ} → Counted q node times i → length node ≤ i → times ≤ 1 → at < length node
      → get_or node at 0 < get_or q at 0 → Once q node at (length node)
  only-once {i = i} {at} x d l h m = let e : i ≡ length node = omega (arith, x.upto) in elim x.is [
    | nowhere z f ↦ absurd (omega (arith, f at (omega arith)))
    | once {at = k} z o ↦ record {
      inside = h;
      more = m;
      only = λ j b n. o.only j (omega arith) (λ y. n (elim (eq-or-ne at k) [
        | inl w ↦ y ∙ sym w
        | inr w ↦ absurd (omega (arith, o.only at (omega arith) w))
      ]));
    }
    | twice z k a b o ↦ absurd (omega arith)
  ]

module _ (q : List ℕ) {node u : List ℕ} (e : length q ≡ length node) (a : Above node u) where
  under : (i : ℕ) → i < length node → get_or q i 0 ≤ suc (get_or u i 0) → ((j : ℕ) → j < length node → j ≢ i → get_or q j 0 ≤ get_or node j 0)
      → dominates (child node u i) q ≡ true
  under i h l o = at-most-dominates q (child node u i) (λ j. elim (eq-or-ne j i) [
    | inl x ↦ rw (x, get_or-set_same node i (suc (get_or u i 0)) 0 h) l
    | inr x ↦ rw (get_or-set_other node i j (suc (get_or u i 0)) 0 x)
        (elim (le-or-lt (length q) j) [ inl t ↦ omega (arith, get_or-eq_default q 0 t) | inr t ↦ o j (omega arith) x ])
  ])

  over : (i j : ℕ) → get_or node j 0 < get_or q j 0 → j ≢ i → dominates (child node u i) q ≡ false
  over i j l x = not-dominates q (child node u i) j (simp length-set e) (rw (get_or-set_other node i j (suc (get_or u i 0)) 0 x) l)

  past : (i : ℕ) → i < length node → suc (get_or u i 0) < get_or q i 0 → dominates (child node u i) q ≡ false
  past i h l = not-dominates q (child node u i) i (simp length-set e) (rw (get_or-set_same node i (suc (get_or u i 0)) 0 h) l)

  pub drops-all : ((j : ℕ) → j < length node → get_or q j 0 ≤ get_or node j 0) → DroppedBy q node u All
  drops-all f = record {
    marks = λ j h. under j h (omega (arith, f j (omega arith), a.above j)) (λ k l y. f k (omega arith));
    is_in_range = tt;
  }

  pub drops-two : {times i : ℕ} → Counted q node times i → 1 < times → DroppedBy q node u Nothing
  drops-two x z = elim x.is [
    | nowhere t f ↦ absurd (omega arith)
    | once t o ↦ absurd (omega arith)
    | twice {k = k} {l = l} t b h m o ↦ record {
      marks = λ j r. elim (bool (eqb l j)) [
        | inl y ↦ over j k m (λ w. omega (arith, eqb-true l j y))
        | inr y ↦ over j l o (eqb-false l j y)
      ];
      is_in_range = tt;
    }
  ]

  module _ {at : ℕ} (o : Once q node at (length node)) where
    pub drops-one : get_or q at 0 - 1 ≤ get_or u at 0 → DroppedBy q node u (One at)
    drops-one l = record {
      marks = λ j t. elim (bool (eqb j at)) [
        | inl z ↦ rw (z, eqb-true j at z) (under at o.inside (omega arith) o.only)
        | inr z ↦ rw z (over j at o.more (λ w. eqb-false j at z (sym w)))
      ];
      is_in_range = o.inside;
    }

    pub drops-none : get_or u at 0 < get_or q at 0 - 1 → DroppedBy q node u Nothing
    drops-none l = record {
      marks = λ j t. elim (bool (eqb j at)) [
        | inl z ↦ rw (eqb-true j at z) (past at o.inside (omega arith))
        | inr z ↦ over j at o.more (λ w. eqb-false j at z (sym w))
      ];
      is_in_range = tt;
    }

pub one_inside : {q node u : List ℕ} {d : Drops} → DroppedBy q node u d → {j : ℕ} → d ≡ One j → j < length node
one_inside {node = node} s e = subst (λ (x : Drops). in_range x (length node)) e s.is_in_range

-- the marks after the first k open nodes: the others are still to come
pub record Marked (o : OpenNodes) (node u : List ℕ) (marks : List Bool) (k : ℕ) : Type 0 where
  pub size : length marks ≡ 16
  pub upto : k ≤ o.count
  pub is : (i : ℕ) → i < length node → let c = child node u i in
      get_or marks i false || dominates_some c (drop k (open_nodes o)) ≡ dominates_some c (open_nodes o)

module _ {o : OpenNodes} {node u : List ℕ} (b : Expands o node u) where
  few : length node ≤ 16
  few = omega (arith, b.sized, o.light.few)

  module _ {marks : List Bool} {k : ℕ} (m : Marked o node u marks k) where
    pub marked_all : o.count ≤ k → Dropped o node u marks
    marked_all h =
        let e = drop_of_length-le (open_nodes o) {i = k} (omega (arith, listed-long o)) in
        record { marked = λ i t. sym (or-false (get_or marks i false)) ∙ rw e at (m.is i t) }

    module _ (h : k < o.count) {q : List ℕ} {d : Drops} (eq : q ≡ node_of o k) (s : DroppedBy q node u d) where
      seen : (i : ℕ) → i < length node → let c = child node u i in
          get_or marks i false || (drops d i || dominates_some c (drop (k + 1) (open_nodes o))) ≡ dominates_some c (open_nodes o)
      seen i t =
          let e = drop-cons (open_nodes o) k [] (omega (arith, listed-long o)) in
          rw (← s.marks i t, eq, ← nodes-at o.count (length (weights_of o)) o.work.now k h, add-one k) (rw e at (m.is i t))

      pub mark-every : d ≡ All → Dropped o node u (replicate 16 true)
      mark-every e = record {
        marked = λ i t. get_or-replicate 16 i true false (omega (arith, few)) ∙ sym (or-true (get_or marks i false)) ∙ rw e at (seen i t);
      }

      next : (marks' : List Bool) → length marks' ≡ 16
          → ((i : ℕ) → i < length node → get_or marks' i false ≡ get_or marks i false || drops d i)
          → Marked o node u marks' (k + 1)
      next marks' l f = record { size = l; upto = omega arith; is = λ i t. rw (f i t, or_assoc) (seen i t) }

      pub mark-none : d ≡ Nothing → Marked o node u marks (k + 1)
      mark-none e = next marks m.size (λ i t. rw e (sym (or-false (get_or marks i false))))

      pub mark-one : {j : ℕ} → d ≡ One j → Marked o node u (set marks j true) (k + 1)
      mark-one {j} e = next (set marks j true) (simp length-set m.size) (λ i t. rw e (elim (bool (eqb i j)) [
        | inl x ↦ rw (x, or-true (get_or marks i false), eqb-true i j x)
            (get_or-set_same marks j true false (omega (arith, m.size, few, one_inside s e)))
        | inr x ↦ rw (x, or-false (get_or marks i false)) (get_or-set_other marks j i true false (eqb-false i j x))
      ]))
