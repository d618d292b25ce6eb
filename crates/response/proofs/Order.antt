-- The order of assignments is strict and total, and respects dominance. By definition `less ws xs ys` is `before` of the two with their
-- costs in front, so each law is one of `before`.
use mathlib.Core.Path.{◌≡◌, refl, sym, ap, ap₂, ◌∙◌}
use mathlib.Core.Bool.{Bool, true, false, ◌&&◌, ◌||◌, true≢false, false≢true}
use mathlib.Core.Logic.{◌⊎◌, inl, inr}
use mathlib.Core.List.{List, [], ◌∷◌}
use Prim.Native.Nat.{ℕ, zero, suc, ◌+◌, ◌*◌, ◌≤◌, ◌<◌}
use native.Mathlib.Omega.{arith}
use native.Mathlib.Nat.{mul-le-mul_left, mul-le-mul}
use lib.Dec.{eqb, ltb}
use lib.ListN.{length, get_or, set}
use borrow.Author.Tests.{ltb-true, eqb-true, lt-ltb, le-ltb, eq-eqb}
use Rattle.plan.proofs.Tests.{bool, le-or-lt, eq-or-ne, both, not-false, and_left, and_right, or_cases}
use Rattle.response.specs.Assignments.{cost, before, less}
use Rattle.response.proofs.Dominance.{AtMost, at-most-cons}

-- by a first number, then by a test b
module _ (x y : ℕ) (b : Bool) where
  pub first-lt : x < y → ltb x y || (eqb x y && b) ≡ true
  first-lt h = rw (lt-ltb x y h)

  pub first-eq : x ≡ y → ltb x y || (eqb x y && b) ≡ b
  first-eq h = rw (le-ltb x y (omega arith), eq-eqb x y h)

  pub first-true : ltb x y || (eqb x y && b) ≡ true → (x < y) ⊎ ((x ≡ y) × (b ≡ true))
  first-true e = elim (or_cases (ltb x y) _ e) [
    | inl t ↦ inl (ltb-true x y t)
    | inr t ↦ inr (eqb-true x y (and_left (eqb x y) b t), and_right (eqb x y) b t)
  ]

  pub first-false : ltb x y || (eqb x y && b) ≡ false → (y < x) ⊎ ((x ≡ y) × (b ≡ false))
  first-false e = elim (le-or-lt x y) [
    | inr h ↦ inl h
    | inl h ↦ elim (eq-or-ne x y) [ inl q ↦ inr (q, sym (first-eq q) ∙ e) | inr n ↦ absurd (both (first-lt (omega arith)) e) ]
  ]

pub before-irrefl : (xs : List ℕ) → before xs xs ≡ false
before-irrefl [] = refl
before-irrefl (x ∷ xs) = first-eq x x (before xs xs) refl ∙ before-irrefl xs

pub before-trans : (xs ys zs : List ℕ) → before xs ys ≡ true → before ys zs ≡ true → before xs zs ≡ true
before-trans [] [] zs e f = absurd (false≢true e)
before-trans [] (y ∷ ys) [] e f = absurd (false≢true f)
before-trans [] (y ∷ ys) (z ∷ zs) e f = refl
before-trans (x ∷ xs) [] zs e f = absurd (false≢true e)
before-trans (x ∷ xs) (y ∷ ys) [] e f = absurd (false≢true f)
before-trans (x ∷ xs) (y ∷ ys) (z ∷ zs) e f = elim (first-true x y _ e) [
  | inl h ↦ elim (first-true y z _ f) [ inl k ↦ first-lt x z _ (omega arith) | inr k ↦ first-lt x z _ (omega (arith, k.0)) ]
  | inr h ↦ elim (first-true y z _ f) [
    | inl k ↦ first-lt x z _ (omega (arith, h.0))
    | inr k ↦ first-eq x z _ (h.0 ∙ k.0) ∙ before-trans xs ys zs h.1 k.1
  ]
]

pub before-total : (xs ys : List ℕ) → before xs ys ≡ false → before ys xs ≡ false → xs ≡ ys
before-total [] [] e f = refl
before-total [] (y ∷ ys) e f = absurd (true≢false e)
before-total (x ∷ xs) [] e f = absurd (true≢false f)
before-total (x ∷ xs) (y ∷ ys) e f = elim (first-false x y _ e) [
  | inl h ↦ absurd (both (first-lt y x _ h) f)
  | inr h ↦ ap₂ ◌∷◌ h.0 (before-total xs ys h.1 (sym (first-eq y x _ (sym h.0)) ∙ f))
]

-- one that dominates never comes before
pub before-at-most : (xs ys : List ℕ) → length xs ≡ length ys → AtMost xs ys → before ys xs ≡ false
before-at-most [] [] e a = refl
before-at-most [] (y ∷ ys) e a = refl
before-at-most (x ∷ xs) [] e a = let z : ⊥ = omega arith in absurd z
before-at-most (x ∷ xs) (y ∷ ys) e a = not-false (λ t. elim (first-true y x (before ys xs) t) [
  | inl h ↦ omega (arith, a 0)
  | inr h ↦ both h.1 (before-at-most xs ys (omega arith) (λ k. a (suc k)))
])

pub cost-mono : (ws xs ys : List ℕ) → length xs ≡ length ys → AtMost xs ys → cost ws xs ≤ cost ws ys
cost-mono [] xs ys e a = omega arith
cost-mono (w ∷ ws) [] ys e a = omega arith
cost-mono (w ∷ ws) (x ∷ xs) [] e a = let z : ⊥ = omega arith in absurd z
cost-mono (w ∷ ws) (x ∷ xs) (y ∷ ys) e a = omega (arith, mul-le-mul_left w (a 0), cost-mono ws xs ys (omega arith) (λ k. a (suc k)))

-- one period longer by d
pub cost-longer : (ws xs : List ℕ) (i d : ℕ) → i < length ws → i < length xs
    → cost ws (set xs i (get_or xs i 0 + d)) ≡ cost ws xs + get_or ws i 0 * d
cost-longer [] xs i d h l = let z : ⊥ = omega arith in absurd z
cost-longer (w ∷ ws) [] i d h l = let z : ⊥ = omega arith in absurd z
cost-longer (w ∷ ws) (x ∷ xs) zero d h l = omega arith
cost-longer (w ∷ ws) (x ∷ xs) (suc i) d h l = omega (arith, cost-longer ws xs i d (omega arith) (omega arith))

pub cost-most : (ws xs : List ℕ) (w x : ℕ) → ((k : ℕ) → get_or ws k 0 ≤ w) → ((k : ℕ) → get_or xs k 0 ≤ x) → cost ws xs ≤ length xs * (w * x)
cost-most [] xs w x h l = omega arith
cost-most (v ∷ ws) [] w x h l = omega arith
cost-most (v ∷ ws) (y ∷ xs) w x h l =
    omega (arith, mul-le-mul (h 0) (l 0), cost-most ws xs w x (λ k. h (suc k)) (λ k. l (suc k)))

module _ (ws : List ℕ) where
  abbrev keyed : List ℕ → List ℕ
  keyed xs = cost ws xs ∷ xs

  pub less-irrefl : (xs : List ℕ) → less ws xs xs ≡ false
  less-irrefl xs = before-irrefl (keyed xs)

  module _ (xs ys : List ℕ) where
    pub less-total : less ws xs ys ≡ false → less ws ys xs ≡ false → xs ≡ ys
    less-total e f = let k : keyed xs ≡ keyed ys = before-total (keyed xs) (keyed ys) e f in cc

    pub less-trans : (zs : List ℕ) → less ws xs ys ≡ true → less ws ys zs ≡ true → less ws xs zs ≡ true
    less-trans zs e f = before-trans (keyed xs) (keyed ys) (keyed zs) e f

    pub less-asym : less ws xs ys ≡ true → less ws ys xs ≡ false
    less-asym e = not-false (λ t. both (less-trans xs e t) (less-irrefl xs))

    -- at or after, twice
    pub not-less-trans : (zs : List ℕ) → less ws ys xs ≡ false → less ws zs ys ≡ false → less ws zs xs ≡ false
    not-less-trans zs e f = not-false (λ t. elim (bool (less ws xs ys)) [
      | inl u ↦ both (before-trans (keyed zs) (keyed xs) (keyed ys) t u) f
      | inr u ↦ both t (rw (less-total u e) f)
    ])

    -- at or after is the same or later
    pub same-or-later : less ws ys xs ≡ false → (xs ≡ ys) ⊎ (less ws xs ys ≡ true)
    same-or-later e = elim (bool (less ws xs ys)) [ inl t ↦ inr t | inr t ↦ inl (less-total t e) ]

    pub not-less-cost : less ws ys xs ≡ false → cost ws xs ≤ cost ws ys
    not-less-cost e = elim (first-false (cost ws ys) (cost ws xs) _ e) [ inl h ↦ omega arith | inr h ↦ omega (arith, h.0) ]

    module _ (e : length xs ≡ length ys) (a : AtMost xs ys) where
      pub dominating-not-less : less ws ys xs ≡ false
      dominating-not-less = before-at-most (keyed xs) (keyed ys) (ap suc e) (at-most-cons _ _ xs ys (cost-mono ws xs ys e a) a)

      pub dominating-later : (xs ≡ ys) ⊎ (less ws xs ys ≡ true)
      dominating-later = same-or-later dominating-not-less
