-- Tests as facts: what a Bool equation says, both ways.
use mathlib.Core.Path.{◌≡◌, refl, sym, ◌∙◌}
use mathlib.Core.Bool.{Bool, true, false, ◌&&◌, ◌||◌, true≢false, false≢true}
use mathlib.Core.Logic.{◌⊎◌, inl, inr}
use Prim.Native.Nat.{ℕ, ◌≤◌, ◌<◌}
use lib.Dec.{eqb, leb}
use borrow.Author.Tests.{leb-true, leb-false, eqb-true, eqb-false, le-leb}
use Rattle.plan.specs.Tasks.{between}

-- cases, to be taken apart in place: elim (bool t) [ inl e ↦ .. | inr e ↦ .. ]
pub bool : (t : Bool) → (t ≡ true) ⊎ (t ≡ false)
bool true = inl refl
bool false = inr refl

pub le-or-lt : (a b : ℕ) → (a ≤ b) ⊎ (b < a)
le-or-lt a b = elim (bool (leb a b)) [ inl e ↦ inl (leb-true a b e) | inr e ↦ inr (leb-false a b e) ]

pub eq-or-ne : (a b : ℕ) → (a ≡ b) ⊎ (a ≡ b → ⊥)
eq-or-ne a b = elim (bool (eqb a b)) [ inl e ↦ inl (eqb-true a b e) | inr e ↦ inr (eqb-false a b e) ]

pub both : {t : Bool} → t ≡ true → t ≡ false → ⊥
both p q = true≢false (sym p ∙ q)

pub not-false : {t : Bool} → (t ≡ true → ⊥) → t ≡ false
not-false {t = true} h = absurd (h refl)
not-false {t = false} h = refl

pub and_left : (a b : Bool) → (a && b) ≡ true → a ≡ true
and_left true b e = refl
and_left false b e = e

pub and_right : (a b : Bool) → (a && b) ≡ true → b ≡ true
and_right true b e = e
and_right false b e = absurd (false≢true e)

pub and_both : {a b : Bool} → a ≡ true → b ≡ true → (a && b) ≡ true
and_both {a = true} p q = q
and_both {a = false} p q = p

pub and-false : (b : Bool) → (b && false) ≡ false
and-false true = refl
and-false false = refl

pub or_cases : (a b : Bool) → (a || b) ≡ true → (a ≡ true) ⊎ (b ≡ true)
or_cases true b e = inl refl
or_cases false b e = inr e

pub or_left : (a b : Bool) → (a || b) ≡ false → a ≡ false
or_left true b e = e
or_left false b e = refl

pub or_right : (a b : Bool) → (a || b) ≡ false → b ≡ false
or_right true b e = absurd (false≢true (sym e))
or_right false b e = e

pub between_le : (low x high : ℕ) → between low x high ≡ true → (low ≤ x) × (x ≤ high)
between_le low x high e = (leb-true low x (and_left (leb low x) (leb x high) e), leb-true x high (and_right (leb low x) (leb x high) e))

pub le-between : (low x high : ℕ) → low ≤ x → x ≤ high → between low x high ≡ true
le-between low x high p q = and_both (le-leb low x p) (le-leb x high q)
