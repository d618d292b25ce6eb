-- Assignments compared period by period; list equality. A missing period counts as 0.
use mathlib.Core.Path.{◌≡◌, refl, ap₂}
use mathlib.Core.Bool.{true, false, false≢true}
use mathlib.Core.Logic.{◌⊎◌, inl, inr}
use mathlib.Core.List.{List, [], ◌∷◌}
use Prim.Native.Nat.{ℕ, zero, suc, ◌≤◌, ◌<◌}
use native.Mathlib.Omega.{arith}
use lib.Dec.{eqb, leb}
use lib.ListN.{length, get_or, set}
use lib.Seq.{get_or-set_same, get_or-set_other, set_out, ext_get_or}
use borrow.Author.Tests.{leb-true, eqb-true, le-leb, lt-leb, eq-eqb}
use Rattle.plan.specs.Lists.{same}
use Rattle.plan.proofs.Tests.{le-or-lt, eq-or-ne, not-false, and_left, and_right, and_both, and-false}
use Rattle.response.specs.Assignments.{dominates}

pub same_refl : (xs : List ℕ) → same xs xs ≡ true
same_refl [] = refl
same_refl (x ∷ xs) = and_both (eq-eqb x x refl) (same_refl xs)

pub same-eq : (xs ys : List ℕ) → same xs ys ≡ true → xs ≡ ys
same-eq [] [] e = refl
same-eq [] (y ∷ ys) e = absurd (false≢true e)
same-eq (x ∷ xs) [] e = absurd (false≢true e)
same-eq (x ∷ xs) (y ∷ ys) e = ap₂ ◌∷◌ (eqb-true x y (and_left _ _ e)) (same-eq xs ys (and_right (eqb x y) _ e))

pub ne_same : (xs ys : List ℕ) → (xs ≡ ys → ⊥) → same xs ys ≡ false
ne_same xs ys n = not-false (λ e. n (same-eq xs ys e))

abbrev pub AtMost : List ℕ → List ℕ → Type 0
AtMost xs ys = (k : ℕ) → get_or xs k 0 ≤ get_or ys k 0

pub at-most-cons : (x y : ℕ) (xs ys : List ℕ) → x ≤ y → AtMost xs ys → AtMost (x ∷ xs) (y ∷ ys)
at-most-cons x y xs ys h a zero = h
at-most-cons x y xs ys h a (suc k) = a k

pub at-most-antisym : (xs ys : List ℕ) → length xs ≡ length ys → AtMost xs ys → AtMost ys xs → xs ≡ ys
at-most-antisym xs ys e a b = ext_get_or 0 xs ys e (λ k h. omega (arith, a k, b k))

-- where one is not at most the other, some period tells
pub at-most-or : (xs ys : List ℕ) → length xs ≡ length ys → AtMost xs ys ⊎ ((m : ℕ) × (m < length xs) × (get_or ys m 0 < get_or xs m 0))
at-most-or [] ys e = inl (λ k. omega arith)
at-most-or (x ∷ xs) [] e = let z : ⊥ = omega arith in absurd z
at-most-or (x ∷ xs) (y ∷ ys) e = elim (le-or-lt x y) [
  | inr h ↦ inr (0, omega arith, h)
  | inl h ↦ elim (at-most-or xs ys (omega arith)) [
    | inl a ↦ inl (at-most-cons x y xs ys h a)
    | inr w ↦ inr (suc w.0, omega (arith, w.1), w.2)
  ]
]

pub at-most-dominates : (xs ys : List ℕ) → AtMost xs ys → dominates ys xs ≡ true
at-most-dominates xs [] h = refl
at-most-dominates [] (y ∷ ys) h = refl
at-most-dominates (x ∷ xs) (y ∷ ys) h = and_both (le-leb x y (h 0)) (at-most-dominates xs ys (λ k. h (suc k)))

pub dominates-at-most : (xs ys : List ℕ) → length xs ≡ length ys → dominates ys xs ≡ true → AtMost xs ys
dominates-at-most [] ys e h k = omega arith
dominates-at-most (x ∷ xs) [] e h k = let z : ⊥ = omega arith in absurd z
dominates-at-most (x ∷ xs) (y ∷ ys) e h zero = leb-true x y (and_left (leb x y) (dominates ys xs) h)
dominates-at-most (x ∷ xs) (y ∷ ys) e h (suc k) = dominates-at-most xs ys (omega arith) (and_right (leb x y) (dominates ys xs) h) k

pub dominates-down : (xs ys zs : List ℕ) → length zs ≡ length ys → AtMost zs ys → dominates xs ys ≡ true → dominates xs zs ≡ true
dominates-down [] ys zs e a h = refl
dominates-down (x ∷ xs) ys [] e a h = refl
dominates-down (x ∷ xs) [] (z ∷ zs) e a h = let n : ⊥ = omega arith in absurd n
dominates-down (x ∷ xs) (y ∷ ys) (z ∷ zs) e a h =
    and_both (le-leb z x (omega (arith, a 0, leb-true y x (and_left (leb y x) (dominates xs ys) h))))
    (dominates-down xs ys zs (omega arith) (λ k. a (suc k)) (and_right (leb y x) (dominates xs ys) h))

-- one period that is not
pub not-dominates : (xs ys : List ℕ) (k : ℕ) → length xs ≡ length ys → get_or ys k 0 < get_or xs k 0 → dominates ys xs ≡ false
not-dominates [] ys k e h = let z : ⊥ = omega arith in absurd z
not-dominates (x ∷ xs) [] k e h = let z : ⊥ = omega arith in absurd z
not-dominates (x ∷ xs) (y ∷ ys) zero e h = rw (lt-leb x y h)
not-dominates (x ∷ xs) (y ∷ ys) (suc k) e h = rw (not-dominates xs ys k (omega arith) h) (and-false (leb x y))

-- one period set
pub set_cases : (xs : List ℕ) (i v k : ℕ) → ((k ≡ i) × (get_or (set xs i v) k 0 ≡ v)) ⊎ (get_or (set xs i v) k 0 ≡ get_or xs k 0)
set_cases xs i v k = elim (eq-or-ne k i) [
  | inr n ↦ inr (get_or-set_other xs i k v 0 n)
  | inl e ↦ elim (le-or-lt (length xs) i) [ inl o ↦ inr (rw (set_out xs i v o)) | inr h ↦ inl (e, rw e (get_or-set_same xs i v 0 h)) ]
]

pub at-least-set : (xs ys : List ℕ) (i : ℕ) {v : ℕ} → AtMost ys xs → get_or ys i 0 ≤ v → AtMost ys (set xs i v)
at-least-set xs ys i {v} a h k = elim (set_cases xs i v k) [ inl s ↦ rw (s.1, s.0) h | inr s ↦ rw s (a k) ]

pub at-most-set : (xs : List ℕ) (i : ℕ) {v : ℕ} → get_or xs i 0 ≤ v → AtMost xs (set xs i v)
at-most-set xs i h = at-least-set xs xs i (λ k. omega arith) h

pub set-at-most : (xs ys : List ℕ) (i : ℕ) {v : ℕ} → AtMost xs ys → v ≤ get_or ys i 0 → AtMost (set xs i v) ys
set-at-most xs ys i {v} a h k = elim (set_cases xs i v k) [ inl s ↦ rw (s.1, s.0) h | inr s ↦ rw s (a k) ]

pub set-mono : (xs : List ℕ) (i : ℕ) {a b : ℕ} → a ≤ b → AtMost (set xs i a) (set xs i b)
set-mono xs i {a} {b} h k = elim (eq-or-ne k i) [
  | inl e ↦ elim (le-or-lt (length xs) i) [
    | inl o ↦ rw (set_out xs i a o, set_out xs i b o) (omega arith)
    | inr l ↦ rw (e, get_or-set_same xs i a 0 l, get_or-set_same xs i b 0 l) h
  ]
  | inr e ↦ rw (get_or-set_other xs i k a 0 e, get_or-set_other xs i k b 0 e) (omega arith)
]
