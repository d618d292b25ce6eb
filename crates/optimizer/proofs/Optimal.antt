-- Why the search by a lawful rule is right: every schedulable assignment within the bounds dominates an open node.
use mathlib.Core.Path.{◌≡◌, refl, sym, ◌∙◌}
use mathlib.Core.Bool.{Bool, true, false}
use mathlib.Core.Logic.{◌⊎◌, inl, inr}
use mathlib.Core.List.{List, [], ◌++◌}
use Prim.Native.Nat.{ℕ, zero, suc, ◌+◌, ◌≤◌}
use native.Mathlib.Omega.{arith}
use native.Mathlib.Nat.{le_trans}
use lib.ListN.{length}
use Rattle.plan.specs.declared.tasks.Task.{Task}
use Rattle.plan.specs.Lists.{same}
use Rattle.plan.specs.Tasks.{period_mins, period_maxs, weights}
use Rattle.plan.proofs.Tests.{bool, le-or-lt, both}
use Rattle.response.specs.Assignments.{cost, less, within_bounds}
use Rattle.response.proofs.Dominance.{same-eq, AtMost, at-most-dominates}
use Rattle.response.proofs.Order.{not-less-trans, same-or-later, not-less-cost, dominating-not-less}
use Rattle.response.proofs.Bounds.{Within, within-true, true-within, mins-within, maxs-within, dominates-within}
use Rattle.optimizer.specs.Nodes.{least_of, without, dominates_some, kept, occurrences, SameNodes}
use Rattle.optimizer.specs.Rule.{Rule, End, ended, least, next, search_from}
use Rattle.optimizer.specs.Search.{start}
use Rattle.optimizer.proofs.Multiset.{Listed, listed-cases, listed_here, listed-some, listed-append, occurrences-append}
use Rattle.optimizer.proofs.Multiset.{occurrences-without, Least, least_of_lem, dominates-listed, dominated, occurrences-kept, kept-le}
use Rattle.optimizer.proofs.Steps.{search-spent, round-cases}

-- what the children of a node that is not the answer are: distinct assignments above it, one of them below each schedulable one
pub record Branches (ts : List Task) (test : List ℕ → Bool) (l : List ℕ) (cs : List (List ℕ)) : Type 0 where
  pub within : (c : List ℕ) → Listed c cs → Within ts c
  pub above : (c : List ℕ) → Listed c cs → AtMost l c
  pub other : (c : List ℕ) → Listed c cs → l ≡ c → ⊥
  pub once : (c : List ℕ) → occurrences c cs ≤ 1
  pub below : (xs : List ℕ) → Within ts xs → test xs ≡ true → AtMost l xs → (c : List ℕ) × Listed c cs × AtMost c xs

-- some assignment is schedulable; a rule's answers are, and its children are as above, while what it carries along is as it should be
pub record Lawful (ts : List Task) (test : List ℕ → Bool) (R : Rule) (Carried : R.State → Type 0) : Type 0 where
  pub weighs : R.weights ≡ weights ts
  pub ranged : AtMost (period_mins ts) (period_maxs ts)
  pub top : test (period_maxs ts) ≡ true
  pub answer : (s : R.State) (l : List ℕ) → Carried s → Within ts l → R.answers s l ≡ true → test l ≡ true
  pub carried : (s : R.State) (l : List ℕ) → Carried s → Within ts l → R.answers s l ≡ false → Carried (R.after s l)
  pub branches : (s : R.State) (l : List ℕ) → Carried s → Within ts l → R.answers s l ≡ false
      → Branches ts test l (R.children s l)

-- the invariant of the open nodes
pub record Open (ts : List Task) (test : List ℕ → Bool) (ps : List (List ℕ)) : Type 0 where
  pub within : (p : List ℕ) → Listed p ps → Within ts p
  pub once : (p : List ℕ) → occurrences p ps ≤ 1
  pub below : (xs : List ℕ) → Within ts xs → test xs ≡ true → (q : List ℕ) × Listed q ps × AtMost q xs

pub open-same : {ts : List Task} {test : List ℕ → Bool} (ps qs : List (List ℕ)) → SameNodes qs ps → Open ts test ps → Open ts test qs
open-same ps qs s o = record {
  within = λ p h. o.within p (omega (arith, s p));
  once = λ p. omega (arith, s p, o.once p);
  below = λ xs w t. let q = o.below xs w t in (q.0, omega (arith, s q.0, q.1), q.2);
}

pub open-start : (ts : List Task) (test : List ℕ → Bool) → AtMost (period_mins ts) (period_maxs ts) → Open ts test (start ts)
open-start ts test r = record {
  within = λ p h. elim (listed-cases p (period_mins ts) [] h) [
    | inl e ↦ rw e (mins-within ts r)
    | inr e ↦ let z : ⊥ = omega arith in absurd z
  ];
  once = λ p. elim (bool (same p (period_mins ts))) [ inl e ↦ rw e (omega arith) | inr e ↦ rw e (omega arith) ];
  below = λ xs w t. (period_mins ts, listed_here (period_mins ts) [], w.low);
}

module _ {ts : List Task} {test : List ℕ → Bool} {ps : List (List ℕ)} (o : Open ts test ps) where
  -- while there is a schedulable assignment there is an open node, and the least comes no later
  open-some : (xs : List ℕ) → Within ts xs → test xs ≡ true → 1 ≤ length ps
  open-some xs w t = let q = o.below xs w t in listed-some q.0 ps q.1

  open-least : (ws xs : List ℕ) → Within ts xs → test xs ≡ true → less ws xs (least_of ws ps) ≡ false
  open-least ws xs w t =
      let q = o.below xs w t in let v = o.within q.0 q.1 in
      not-less-trans ws (least_of ws ps) q.0 xs
      ((least_of_lem ws ps (open-some xs w t)).least q.0 q.1)
      (dominating-not-less ws q.0 xs (v.sized ∙ sym w.sized) q.2)

  -- a round: l is taken off, and those of its children are listed that dominate no other open node
  module _ {l : List ℕ} {cs : List (List ℕ)} (b : Branches ts test l cs) where
    abbrev others : List (List ℕ)
    others = without l ps

    joined : (p : List ℕ) → occurrences p (others ++ kept cs others) ≡ occurrences p others + occurrences p (kept cs others)
    joined p = occurrences-append p others (kept cs others)

    from : (p : List ℕ) → Listed p (others ++ kept cs others) → Listed p ps ⊎ Listed p cs
    from p h = elim (listed-append p others (kept cs others) h) [
      | inl a ↦ inl (omega (arith, occurrences-without p l ps))
      | inr a ↦ inr (omega (arith, kept-le p cs others))
    ]

    open_step : Open ts test (others ++ kept cs others)
    open_step = record {
      within = λ p h. elim (from p h) [ inl a ↦ o.within p a | inr a ↦ b.within p a ];
      once = λ p. elim (bool (dominates_some p others)) [
        | inl d ↦ omega (arith, joined p, occurrences-without p l ps, o.once p, rw d at (occurrences-kept p cs others))
        | inr d ↦ elim (le-or-lt 1 (occurrences p others)) [
          | inl h ↦ absurd (both (dominates-listed p p others h (at-most-dominates p p (λ k. omega arith))) d)
          | inr h ↦ omega (arith, joined p, b.once p, kept-le p cs others)
        ]
      ];
      below = λ xs w t. let q = o.below xs w t in elim (bool (same q.0 l)) [
        | inr s ↦ (q.0, omega (arith, joined q.0, rw s at (occurrences-without q.0 l ps), q.1), q.2)
        | inl s ↦ let c = b.below xs w t (rw (same-eq q.0 l s) at q.2) in elim (bool (dominates_some c.0 others)) [
          | inr d ↦ (c.0, omega (arith, joined c.0, rw d at (occurrences-kept c.0 cs others), c.1), c.2)
          | inl d ↦ let r = dominated c.0 others d in
              let v = o.within r.0 (omega (arith, r.1, occurrences-without r.0 l ps)) in
              let a = dominates-within v (b.within c.0 c.1) r.2 in
              (r.0, omega (arith, joined r.0, r.1), λ k. le_trans (a k) (c.2 k))
        ]
      ];
    }

-- what a search ends with: the first of all schedulable assignments within the bounds, or a bound below the cost of each
pub record Optimal (ts : List Task) (test : List ℕ → Bool) (ws : List ℕ) {S : Type 0} (e : End S) : Type 0 where
  pub number : (e.number ≡ 0) ⊎ ((e.number ≡ 33) ⊎ (e.number ≡ 34))
  pub answered : e.number ≡ 0 → (within_bounds ts e.periods ≡ true) × (test e.periods ≡ true)
  pub cheapest : e.number ≡ 0 → (xs : List ℕ) → within_bounds ts xs ≡ true → test xs ≡ true
      → (e.periods ≡ xs) ⊎ (less ws e.periods xs ≡ true)
  pub stops : 33 ≤ e.number → (xs : List ℕ) → within_bounds ts xs ≡ true → test xs ≡ true → e.bound ≤ cost ws xs

module _ {ts : List Task} {test : List ℕ → Bool} {R : Rule} {Carried : R.State → Type 0} (𝓛 : Lawful ts test R Carried) where
  pub never-empty : {ps : List (List ℕ)} → Open ts test ps → 1 ≤ length ps
  never-empty o = open-some o (period_maxs ts) (maxs-within ts 𝓛.ranged) 𝓛.top

  pub least-listed : {ps : List (List ℕ)} → Open ts test ps → Least R.weights (least R ps) ps
  least-listed {ps} o = least_of_lem R.weights ps (never-empty o)

  pub least-within : {ps : List (List ℕ)} → Open ts test ps → Within ts (least R ps)
  least-within {ps} o = o.within (least R ps) (least-listed o).listed

  -- a round that does not answer
  module _ (s : R.State) {ps : List (List ℕ)} (c : Carried s) (o : Open ts test ps) (e : R.answers s (least R ps) ≡ false) where
    pub least-branches : Branches ts test (least R ps) (R.children s (least R ps))
    least-branches = 𝓛.branches s (least R ps) c (least-within o) e

    pub carried-next : Carried (R.after s (least R ps))
    carried-next = 𝓛.carried s (least R ps) c (least-within o) e

    pub open_next : Open ts test (next R s ps)
    open_next = open_step o least-branches

  stopped : (n r : ℕ) (s : R.State) {ps : List (List ℕ)} → (n ≡ 33) ⊎ (n ≡ 34) → Open ts test ps
      → Optimal ts test R.weights (ended n [] r (cost R.weights (least R ps)) s)
  stopped n r s {ps} i o = record {
    number = inr i;
    answered = λ z. absurd (no z);
    cheapest = λ z. absurd (no z);
    stops = λ h xs w t. not-less-cost R.weights (least R ps) xs (open-least o R.weights xs (within-true ts xs w) t);
  }
    where
      no : n ≡ 0 → ⊥
      no z = elim i [ inl e ↦ omega arith | inr e ↦ omega arith ]

  pub optimal : (left room rounds : ℕ) (s : R.State) (ps : List (List ℕ)) → Carried s → Open ts test ps
      → Optimal ts test R.weights (search_from R left room rounds s ps)
  optimal zero room rounds s ps c o = rw (search-spent R room rounds s ps) (stopped 33 rounds s (inl refl) o)
  optimal (suc left) room rounds s ps c o =
      let l = least R ps in let w = least-within o in
      round-cases R room rounds s ps left (Optimal ts test R.weights)
      (λ e. record {
        number = inl refl;
        answered = λ z. (true-within ts l w, 𝓛.answer s l c w e);
        cheapest = λ z xs v t. same-or-later R.weights l xs (open-least o R.weights xs (within-true ts xs v) t);
        stops = λ h. let z : ⊥ = omega arith in absurd z;
      })
      (λ e h. stopped 34 (suc rounds) (R.after s l) (inr refl) o)
      (λ e h. optimal left room (suc rounds) (R.after s l) (next R s ps) (carried-next s c o e) (open_next s c o e))

  -- and with a state as it should be
  pub carried-end : (left room rounds : ℕ) (s : R.State) (ps : List (List ℕ)) → Carried s → Open ts test ps
      → Carried (search_from R left room rounds s ps).state
  carried-end zero room rounds s ps c o = rw (search-spent R room rounds s ps) c
  carried-end (suc left) room rounds s ps c o =
      round-cases R room rounds s ps left (λ e. Carried e.state)
      (λ e. c)
      (λ e h. carried-next s c o e)
      (λ e h. carried-end left room (suc rounds) _ (next R s ps) (carried-next s c o e) (open_next s c o e))
