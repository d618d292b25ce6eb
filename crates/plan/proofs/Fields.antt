-- Name fields, and what names are made of.
use mathlib.Core.Path.{◌≡◌, refl, sym, ap, ◌∙◌}
use mathlib.Core.Bool.{Bool, true, false, ◌&&◌, not, cond, false≢true}
use mathlib.Core.Logic.{inl, inr}
use mathlib.Core.List.{List, [], ◌∷◌, ◌++◌}
use Prim.Native.Nat.{ℕ, zero, suc, ◌+◌, ◌-◌, ◌*◌, ◌≤◌, ◌<◌}
use native.Mathlib.Omega.{arith}
use lib.Dec.{eqb, leb, ltb}
use lib.ListN.{length, get_or, take, drop, replicate, length-drop, take-append-drop}
use lib.Seq.{length-take-le}
use borrow.Author.Tests.{ne_eqb, eqb-true, le-leb, leb-true, le-ltb, lt-ltb}
use Rattle.std.specs.Prelude.{Option, None, Some, unwrap_or}
use Rattle.std.specs.List.{list_all, position_or_len, prefix_len}
use Rattle.plan.specs.Layout.{name_width, names_at, names_end_of, task_count}
use Rattle.plan.specs.Names.{is_name_byte, all_zero, name_then_zeros, name_ok, without_zeros, name_field, named_earlier}
use Rattle.plan.specs.Inner.{name_length}
use Rattle.plan.proofs.Tests.{bool, le-or-lt, eq-or-ne, and_left, and_right}

-- a file's name fields
pub field-length : (s : List ℕ) → names_end_of s ≤ length s → (i : ℕ) → i < task_count s
    → length (name_field s i) ≡ name_width
field-length s fits i h =
    let at : ℕ = names_at s + name_width * i in
    length-take-le name_width (drop at s) (simp length-drop (omega arith))

-- a byte before others
module _ (b : ℕ) (bs : List ℕ) where
  pub length_more : is_name_byte b ≡ true → name_length (b ∷ bs) ≡ suc (name_length bs)
  length_more e = rw (e, name_length)

  pub length-stop : is_name_byte b ≡ false → name_length (b ∷ bs) ≡ 0
  length-stop e = rw (e, name_length)

-- a name is good where its field begins with name bytes and the rest is zero
name-begins : (l : List ℕ) → is_name_byte (get_or l 0 0) ≡ leb 1 (name_length l)
name-begins [] = refl
name-begins (b ∷ bs) = elim (bool (is_name_byte b)) [
  | inl e ↦ rw (length_more b bs e, e) (sym (le-leb 1 (suc (name_length bs)) (omega arith)))
  | inr e ↦ rw (length-stop b bs e, e) refl
]

name-rest : (l : List ℕ) → name_then_zeros l ≡ all_zero (drop (name_length l) l)
name-rest [] = refl
name-rest (b ∷ bs) = elim (bool (is_name_byte b)) [
  | inl e ↦ rw (e, name_length, name_then_zeros) (name-rest bs)
  | inr e ↦ rw (e, name_length, name_then_zeros) refl
]

pub name_ok-is : (l : List ℕ) → name_ok l ≡ (leb 1 (name_length l) && all_zero (drop (name_length l) l))
name_ok-is l = rw (name-begins, name-rest)

pub all_zero-is : (l : List ℕ) → all_zero l ≡ list_all (λ b. eqb b 0) l
all_zero-is [] = refl
all_zero-is (b ∷ bs) = ap (λ r. eqb b 0 && r) (all_zero-is bs)

-- a good name without its zeros is the name bytes that its field begins with
zero-no_name : (b : ℕ) → b ≡ 0 → is_name_byte b ≡ false
zero-no_name b e = rw e

then-zeros : (l : List ℕ) → name_then_zeros l ≡ true → without_zeros l ≡ take (name_length l) l
then-zeros [] e = refl
then-zeros (b ∷ bs) e = elim (bool (is_name_byte b)) [
  | inl n ↦ elim (eq-or-ne b 0) [
    | inl z ↦ absurd (false≢true (sym (zero-no_name b z) ∙ n))
    | inr z ↦ let tail = then-zeros bs (rw (n, name_then_zeros) at e) in
        rw (ne_eqb b 0 z, n, without_zeros, name_length) (ap (λ (l : List ℕ). b ∷ l) tail)
  ]
  | inr n ↦ rw (and_left (eqb b 0) (all_zero bs) (rw (n, name_then_zeros) at e), n, without_zeros, name_length)
]

pub name-is : (l : List ℕ) → name_ok l ≡ true → without_zeros l ≡ take (name_length l) l
name-is l e = then-zeros l (and_right (is_name_byte (get_or l 0 0)) (name_then_zeros l) e)

pub name_length-le : (l : List ℕ) → name_length l ≤ length l
name_length-le [] = omega arith
name_length-le (b ∷ bs) = elim (bool (is_name_byte b)) [
  | inl e ↦ omega (arith, length_more b bs e, name_length-le bs)
  | inr e ↦ omega (arith, length-stop b bs e)
]

-- so many name bytes stand before the first that is none, or before the end
abbrev pub is_other : ℕ → Bool
is_other b = not (is_name_byte b)

length-is : (l : List ℕ) → name_length l ≡ position_or_len is_other l
length-is [] = refl
length-is (b ∷ bs) = elim (bool (is_name_byte b)) [
  | inl e ↦ rw (length_more b bs e, e, position_or_len, prefix_len) (omega (arith, length-is bs))
  | inr e ↦ rw (length-stop b bs e, e, position_or_len, prefix_len) refl
]

pub length-found : (l : List ℕ) (r : Option ℕ)
    → r ≡ cond (ltb (position_or_len is_other l) (length l)) (Some (position_or_len is_other l)) None
    → unwrap_or r (length l) ≡ name_length l
length-found l r e = elim (le-or-lt (length l) (name_length l)) [
  | inl h ↦ let z : name_length l ≡ length l = omega (arith, name_length-le l) in
      rw (e, ← length-is l, le-ltb (name_length l) (length l) h) (sym z)
  | inr h ↦ rw (e, ← length-is l, lt-ltb (name_length l) (length l) h) refl
]

pub name-some : (l : List ℕ) → name_ok l ≡ true → 1 ≤ name_length l
name-some l e =
    leb-true 1 (name_length l) (sym (name-begins l) ∙ and_left (is_name_byte (get_or l 0 0)) (name_then_zeros l) e)

-- and its field is that name with zero bytes behind it
zeros : (l : List ℕ) → all_zero l ≡ true → l ≡ replicate (length l) 0
zeros [] e = refl
zeros (b ∷ bs) e =
    let z = eqb-true b 0 (and_left (eqb b 0) (all_zero bs) e) in
    rw z (ap (λ (l : List ℕ). 0 ∷ l) (zeros bs (and_right (eqb b 0) (all_zero bs) e)))

pub name-padded : (l : List ℕ) → name_ok l ≡ true → without_zeros l ++ replicate (length l - length (without_zeros l)) 0 ≡ l
name-padded l e =
    let k : ℕ = name_length l in
    let size : length (take k l) ≡ k = length-take-le k l (name_length-le l) in
    let z : all_zero (drop k l) ≡ true = and_right (leb 1 k) (all_zero (drop k l)) (sym (name_ok-is l) ∙ e) in
    let rest : drop k l ≡ replicate (length l - k) 0 = rw (length-drop k l) at (zeros (drop k l) z) in
    rw (name-is l e, size, ← rest) (take-append-drop k l)

-- two files whose first n names are equal
pub earlier-same :
    (s s' : List ℕ) (n : ℕ) → ((k : ℕ) → k < n → name_field s k ≡ name_field s' k)
    → (i j : ℕ) → i < n → j ≤ n → named_earlier s i j ≡ named_earlier s' i j
earlier-same s s' n h i zero p q = refl
earlier-same s s' n h i (suc j) p q =
    rw (h i p, h j (omega arith), earlier-same s s' n h i j p (omega arith))
