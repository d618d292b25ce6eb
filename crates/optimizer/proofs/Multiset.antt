-- The open nodes as a multiset: how often a node is listed, under each change of the list; what depends on that alone.
use mathlib.Core.Path.{◌≡◌, refl, sym, ap}
use mathlib.Core.Bool.{true, false, cond, false≢true}
use mathlib.Core.Logic.{◌⊎◌, inl, inr}
use mathlib.Core.List.{List, [], ◌∷◌, ◌++◌}
use Prim.Native.Nat.{ℕ, zero, suc, ◌+◌, ◌-◌, ◌≤◌, ◌<◌}
use native.Mathlib.Omega.{arith}
use lib.ListN.{length, get_or, set}
use Rattle.plan.specs.Lists.{same}
use Rattle.plan.proofs.Tests.{bool, le-or-lt, both, not-false, or_cases}
use Rattle.response.specs.Assignments.{less, dominates}
use Rattle.response.proofs.Dominance.{same_refl, same-eq, ne_same}
use Rattle.response.proofs.Order.{less-irrefl, less-total, less-asym, not-less-trans}
use Rattle.optimizer.specs.Nodes.{least_from, least_of, without, dominates_some, kept, occurrences, SameNodes}

abbrev pub Listed : List ℕ → List (List ℕ) → Type 0
Listed p ps = 1 ≤ occurrences p ps

occurrences-self : (p : List ℕ) (ps : List (List ℕ)) → occurrences p (p ∷ ps) ≡ suc (occurrences p ps)
occurrences-self p ps = rw (same_refl p) (omega arith)

-- a listed node is the first or one of the others
pub listed-cases : (p q : List ℕ) (ps : List (List ℕ)) → Listed p (q ∷ ps) → (p ≡ q) ⊎ Listed p ps
listed-cases p q ps h = elim (bool (same p q)) [ inl e ↦ inl (same-eq p q e) | inr e ↦ inr (omega (arith, rw e at h)) ]

pub listed_here : (p : List ℕ) (ps : List (List ℕ)) → Listed p (p ∷ ps)
listed_here p ps = omega (arith, occurrences-self p ps)

pub listed-some : (p : List ℕ) (ps : List (List ℕ)) → Listed p ps → 1 ≤ length ps
listed-some p [] h = h
listed-some p (q ∷ ps) h = omega arith

pub occurrences-append : (p : List ℕ) (ps qs : List (List ℕ)) → occurrences p (ps ++ qs) ≡ occurrences p ps + occurrences p qs
occurrences-append p [] qs = omega arith
occurrences-append p (q ∷ ps) qs = omega (arith, occurrences-append p ps qs)

pub listed-append : (p : List ℕ) (ps qs : List (List ℕ)) → Listed p (ps ++ qs) → Listed p ps ⊎ Listed p qs
listed-append p ps qs h =
    elim (le-or-lt 1 (occurrences p ps)) [ inl a ↦ inl a | inr a ↦ inr (omega (arith, occurrences-append p ps qs)) ]

pub occurrences-without : (p q : List ℕ) (ps : List (List ℕ))
    → occurrences p (without q ps) ≡ occurrences p ps - cond (same p q) 1 0
occurrences-without p q [] = omega arith
occurrences-without p q (r ∷ ps) = elim (bool (same q r)) [
  | inl e ↦ rw (e, same-eq q r e) (omega arith)
  | inr e ↦ rw e (let k = occurrences-without p q ps in elim (bool (same p r)) [
    | inl s ↦ let o : same p q ≡ false = ne_same p q (λ t. both s (rw (← t) at e)) in rw (s, o) (omega (arith, rw o at k))
    | inr s ↦ rw s (omega arith)
  ])
]

pub occurrences-set : (p : List ℕ) (ps : List (List ℕ)) (i : ℕ) (q : List ℕ) → i < length ps
    → occurrences p (set ps i q) + cond (same p (get_or ps i [])) 1 0 ≡ occurrences p ps + cond (same p q) 1 0
occurrences-set p [] i q h = let z : ⊥ = omega arith in absurd z
occurrences-set p (r ∷ ps) zero q h = omega arith
occurrences-set p (r ∷ ps) (suc i) q h = omega (arith, occurrences-set p ps i q (omega arith))

length_without : (q : List ℕ) (ps : List (List ℕ)) → Listed q ps → suc (length (without q ps)) ≡ length ps
length_without q [] h = let z : ⊥ = omega arith in absurd z
length_without q (r ∷ ps) h =
    elim (bool (same q r)) [ inl e ↦ rw e | inr e ↦ rw e (ap suc (length_without q ps (omega (arith, rw e at h)))) ]

-- a list that holds no more of each node is no longer
pub length-le : (ps qs : List (List ℕ)) → ((p : List ℕ) → occurrences p ps ≤ occurrences p qs) → length ps ≤ length qs
length-le [] qs h = omega arith
length-le (p ∷ ps) qs h =
    let k : Listed p qs = omega (arith, h p, occurrences-self p ps) in
    omega (arith, length-le ps (without p qs) (λ q. omega (arith, occurrences-without q p qs, h q)), length_without p qs k)

-- the least of the open nodes
pub record Least (ws m : List ℕ) (ps : List (List ℕ)) : Type 0 where
  pub listed : Listed m ps
  pub least : (q : List ℕ) → Listed q ps → less ws q m ≡ false

module _ (ws : List ℕ) where
  least-cons : (p q m : List ℕ) (ps : List (List ℕ)) → Least ws m (cond (less ws q p) q p ∷ ps) → Least ws m (p ∷ q ∷ ps)
  least-cons p q m ps h = elim (bool (less ws q p)) [
    | inl e ↦ let k : Least ws m (q ∷ ps) = rw e at h in record {
      listed = omega (arith, k.listed);
      least = λ r t. elim (listed-cases r p (q ∷ ps) t) [
        | inl s ↦ rw s (not-less-trans ws m q p (k.least q (listed_here q ps)) (less-asym ws q p e))
        | inr s ↦ k.least r s
      ];
    }
    | inr e ↦ let k : Least ws m (p ∷ ps) = rw e at h in record {
      listed = omega (arith, k.listed);
      least = λ r t. elim (bool (same r q)) [
        | inl s ↦ rw (same-eq r q s) (not-less-trans ws m p q (k.least p (listed_here p ps)) e)
        | inr s ↦ k.least r (omega (arith, rw s at t))
      ];
    }
  ]

  least_from_lem : (p : List ℕ) (ps : List (List ℕ)) → Least ws (least_from ws p ps) (p ∷ ps)
  least_from_lem p [] = record {
    listed = listed_here p [];
    least = λ q h. elim (listed-cases q p [] h) [ inl e ↦ rw e (less-irrefl ws p) | inr e ↦ let z : ⊥ = omega arith in absurd z ];
  }
  least_from_lem p (q ∷ ps) = least-cons p q _ ps (least_from_lem (cond (less ws q p) q p) ps)

  pub least_of_lem : (ps : List (List ℕ)) → 1 ≤ length ps → Least ws (least_of ws ps) ps
  unfolding least_of
  least_of_lem [] h = let z : ⊥ = omega arith in absurd z
  least_of_lem (p ∷ ps) h = least_from_lem p ps

  least-is : (m : List ℕ) (ps : List (List ℕ)) → Least ws m ps → m ≡ least_of ws ps
  unfolding least_of
  least-is m [] h = let z : ⊥ = omega (arith, h.listed) in absurd z
  least-is m (p ∷ ps) h =
      let k = least_from_lem p ps in less-total ws m (least_from ws p ps) (k.least m h.listed) (h.least _ k.listed)

-- whether an assignment dominates some open node
pub dominates-listed : (c q : List ℕ) (ps : List (List ℕ)) → Listed q ps → dominates c q ≡ true → dominates_some c ps ≡ true
dominates-listed c q [] h e = let z : ⊥ = omega arith in absurd z
dominates-listed c q (r ∷ ps) h e = elim (listed-cases q r ps h) [
  | inl s ↦ rw (← s, e)
  | inr s ↦ elim (bool (dominates c r)) [ inl t ↦ rw t | inr t ↦ rw t (dominates-listed c q ps s e) ]
]

pub dominated : (c : List ℕ) (ps : List (List ℕ)) → dominates_some c ps ≡ true
    → (q : List ℕ) × Listed q ps × (dominates c q ≡ true)
dominated c [] e = absurd (false≢true e)
dominated c (r ∷ ps) e = elim (or_cases (dominates c r) (dominates_some c ps) e) [
  | inl t ↦ (r, listed_here r ps, t)
  | inr t ↦ let k = dominated c ps t in (k.0, omega (arith, k.1), k.2)
]

-- children kept: those that dominate no open node
pub occurrences-kept : (p : List ℕ) (cs ps : List (List ℕ))
    → occurrences p (kept cs ps) ≡ cond (dominates_some p ps) 0 (occurrences p cs)
occurrences-kept p [] ps = elim (bool (dominates_some p ps)) [ inl e ↦ rw e | inr e ↦ rw e ]
occurrences-kept p (c ∷ cs) ps = let k = occurrences-kept p cs ps in elim (bool (dominates_some p ps)) [
  | inl d ↦ elim (bool (dominates_some c ps)) [
    | inl t ↦ rw (d, t) (rw d at k)
    | inr t ↦ rw (d, t, ne_same p c (λ e. both (rw e at d) t)) (omega (arith, rw d at k))
  ]
  | inr d ↦ elim (bool (dominates_some c ps)) [
    | inl t ↦ rw (d, t, ne_same p c (λ e. both t (rw e at d))) (omega (arith, rw d at k))
    | inr t ↦ rw (d, t) (omega (arith, rw d at k))
  ]
]

pub kept-le : (p : List ℕ) (cs ps : List (List ℕ)) → occurrences p (kept cs ps) ≤ occurrences p cs
kept-le p cs ps =
    let k = occurrences-kept p cs ps in
    elim (bool (dominates_some p ps)) [ inl e ↦ omega (arith, rw e at k) | inr e ↦ omega (arith, rw e at k) ]

-- lists that hold the same nodes
module _ (ps qs : List (List ℕ)) (s : SameNodes ps qs) where
  same-nodes-sym : SameNodes qs ps
  same-nodes-sym p = sym (s p)

  pub same-nodes-without : (q : List ℕ) → SameNodes (without q ps) (without q qs)
  same-nodes-without q p = omega (arith, occurrences-without p q ps, occurrences-without p q qs, s p)

  pub same_length : length ps ≡ length qs
  same_length = omega (arith, length-le ps qs (λ p. omega (arith, s p)), length-le qs ps (λ p. omega (arith, s p)))

  pub same-least : (ws : List ℕ) → least_of ws ps ≡ least_of ws qs
  same-least ws = elim (le-or-lt 1 (length ps)) [
    | inl h ↦ let k = least_of_lem ws ps h in
        least-is ws (least_of ws ps) qs
        (record { listed = omega (arith, k.listed, s (least_of ws ps)); least = λ q t. k.least q (omega (arith, s q)) })
    | inr h ↦ empty ps qs (omega arith) (omega (arith, same_length))
  ]
    where
      empty : (ps qs : List (List ℕ)) → length ps ≡ 0 → length qs ≡ 0 → least_of ws ps ≡ least_of ws qs
      empty [] [] e f = refl
      empty [] (q ∷ qs) e f = let z : ⊥ = omega arith in absurd z
      empty (p ∷ ps) qs e f = let z : ⊥ = omega arith in absurd z

  same-dominated : (c : List ℕ) → dominates_some c ps ≡ true → dominates_some c qs ≡ true
  same-dominated c e = let k = dominated c ps e in dominates-listed c k.0 qs (omega (arith, k.1, s k.0)) k.2

same_kept : (cs ps qs : List (List ℕ)) → SameNodes ps qs → kept cs ps ≡ kept cs qs
same_kept [] ps qs s = refl
same_kept (c ∷ cs) ps qs s = let k = same_kept cs ps qs s in elim (bool (dominates_some c ps)) [
  | inl e ↦ rw (e, same-dominated ps qs s c e) k
  | inr e ↦ let f = not-false (λ t. both (same-dominated qs ps (same-nodes-sym ps qs s) c t) e) in
      rw (e, f) (ap (λ z. c ∷ z) k)
]

-- the open nodes with the children kept
pub same-expanded : (cs ps qs : List (List ℕ)) → SameNodes ps qs → SameNodes (ps ++ kept cs ps) (qs ++ kept cs qs)
same-expanded cs ps qs s p =
    rw (← same_kept cs ps qs s)
    (omega (arith, s p, occurrences-append p ps (kept cs ps), occurrences-append p qs (kept cs ps)))
