-- Numbers as bytes: words of two, four and eight bytes, bytes that are written one by one, and what they read back as.
use mathlib.Core.Path.{◌≡◌, refl, sym, ap, ◌∙◌}
use mathlib.Core.Bool.{◌&&◌}
use mathlib.Core.Logic.{inl, inr}
use mathlib.Core.List.{List, [], ◌∷◌, ◌++◌}
use Prim.Native.Nat.{ℕ, zero, suc, ◌+◌, ◌*◌, ◌/◌, ◌^◌, ◌≤◌, ◌<◌}
use native.Mathlib.Nat.{pow-succ', mod-add-div}
use native.Mathlib.Omega.{arith}
use lib.Dec.{eqb}
use lib.ListN.{length, get_or, drop}
use lib.Seq.{sets, drop-cons}
use borrow.Author.Tests.{eq-eqb, ne_eqb}
use Rattle.std.specs.Int.{w16, w32, w64, to_le_bytes}
use Rattle.plan.specs.Lists.{same}
use Rattle.plan.specs.Words.{IsBytes, value_of, bytes_of, words_of, word}
use Rattle.plan.proofs.Tests.{eq-or-ne}
use Rattle.plan.proofs.Lists.{sets-append}
use Rattle.plan.proofs.Joined.{joined_length, joined-from}

pub bytes-length : (width v : ℕ) → length (bytes_of width v) ≡ width
unfolding bytes_of
bytes-length zero v = refl
bytes-length (suc width) v = ap suc (bytes-length width (v / 256))

pub bytes-value : (width v : ℕ) → v < 256 ^ width → value_of (bytes_of width v) ≡ v
unfolding bytes_of value_of
bytes-value zero v h = omega arith
bytes-value (suc width) v h =
    let l : v < 256 * 256 ^ width = rw (pow-succ' 256 width) at h in
    let e : value_of (bytes_of width (v / 256)) ≡ v / 256 = bytes-value width (v / 256) (omega arith) in
    rw e (mod-add-div v 256)

-- as many bytes are the same exactly where their numbers are
digits-same : (x y a b : ℕ) → x < 256 → y < 256 → eqb (x + 256 * a) (y + 256 * b) ≡ (eqb x y && eqb a b)
digits-same x y a b p q = elim (eq-or-ne x y) [
  | inr h ↦ rw (ne_eqb x y h) (ne_eqb (x + 256 * a) (y + 256 * b) (λ e. h (omega arith)))
  | inl e ↦ elim (eq-or-ne a b) [
    | inr h ↦ rw (eq-eqb x y e, ne_eqb a b h) (ne_eqb (x + 256 * a) (y + 256 * b) (λ z. h (omega arith)))
    | inl f ↦ rw (eq-eqb x y e, eq-eqb a b f) (eq-eqb (x + 256 * a) (y + 256 * b) (omega arith))
  ]
]

pub same-value : (l m : List ℕ) → length l ≡ length m → IsBytes l → IsBytes m
    → same l m ≡ eqb (value_of l) (value_of m)
unfolding value_of
same-value [] [] e p q = refl
same-value [] (y ∷ ys) e p q = absurd (omega arith)
same-value (x ∷ xs) [] e p q = absurd (omega arith)
same-value (x ∷ xs) (y ∷ ys) e p q =
    ap (λ b. eqb x y && b) (same-value xs ys (omega arith) (λ k. p (suc k)) (λ k. q (suc k)))
    ∙ sym (digits-same x y (value_of xs) (value_of ys) (p 0) (q 0))

-- the same bytes by their places
pub two-bytes : (v : ℕ) → to_le_bytes w16 v ≡ bytes_of 2 v
unfolding bytes_of
two-bytes v = refl

pub four-bytes : (v : ℕ) → to_le_bytes w32 v ≡ bytes_of 4 v
unfolding bytes_of
four-bytes v =
    let a : v / 65536 ≡ v / 256 / 256 = omega arith in
    let b : v / 16777216 ≡ v / 256 / 256 / 256 = omega arith in
    rw (a, b)

pub eight-bytes : (v : ℕ) → to_le_bytes w64 v ≡ bytes_of 8 v
unfolding bytes_of
eight-bytes v =
    let a : v / 256 ^ 2 ≡ v / 256 / 256 = omega arith in
    let b : v / 256 ^ 3 ≡ v / 256 / 256 / 256 = omega arith in
    let c : v / 256 ^ 4 ≡ v / 256 / 256 / 256 / 256 = omega arith in
    let d : v / 256 ^ 5 ≡ v / 256 / 256 / 256 / 256 / 256 = omega arith in
    let e : v / 256 ^ 6 ≡ v / 256 / 256 / 256 / 256 / 256 / 256 = omega arith in
    let f : v / 256 ^ 7 ≡ v / 256 / 256 / 256 / 256 / 256 / 256 / 256 = omega arith in
    rw (a, b, c, d, e, f)

-- a word byte by byte
module _ (s : List ℕ) (at : ℕ) where
  word_none : word s at 0 ≡ 0
  unfolding value_of
  word_none = refl

  word-cons : (width : ℕ) → at < length s → word s at (suc width) ≡ get_or s at 0 + 256 * word s (at + 1) width
  unfolding value_of
  word-cons width h = let e : at + 1 ≡ suc at = omega arith in rw (drop-cons s at 0 h, e)

pub word_two : (s : List ℕ) (at : ℕ) → at + 2 ≤ length s → word s at 2 ≡ get_or s at 0 + 256 * get_or s (at + 1) 0
word_two s at h =
    rw (word-cons s at 1 (omega arith), word-cons s (at + 1) 0 (omega arith), word_none s (at + 1 + 1)) (omega arith)

pub word-four : (s : List ℕ) (at : ℕ) → at + 4 ≤ length s
    → word s at 4
    ≡ get_or s at 0 + 256 * get_or s (at + 1) 0 + 65536 * get_or s (at + 2) 0 + 16777216 * get_or s (at + 3) 0
word-four s at h =
    let a : at + 1 + 1 ≡ at + 2 = omega arith in
    let b : at + 2 + 1 ≡ at + 3 = omega arith in
    rw (word-cons s at 3 (omega arith), word-cons s (at + 1) 2 (omega arith), a, word_two s (at + 2) (omega arith), b)
    (omega arith)

pub word-eight : (s : List ℕ) (at : ℕ) → at + 8 ≤ length s
    → word s at 8
    ≡ get_or s at 0 + 256 * get_or s (at + 1) 0 + 65536 * get_or s (at + 2) 0 + 16777216 * get_or s (at + 3) 0
    + 4294967296 * get_or s (at + 4) 0 + 1099511627776 * get_or s (at + 5) 0 + 281474976710656 * get_or s (at + 6) 0
    + 72057594037927936 * get_or s (at + 7) 0
word-eight s at h =
    let a : at + 1 + 1 ≡ at + 2 = omega arith in
    let b : at + 2 + 1 ≡ at + 3 = omega arith in
    let c : at + 3 + 1 ≡ at + 4 = omega arith in
    let d : at + 4 + 1 ≡ at + 5 = omega arith in
    let e : at + 4 + 2 ≡ at + 6 = omega arith in
    let f : at + 4 + 3 ≡ at + 7 = omega arith in
    let four = rw (d, e, f) at (word-four s (at + 4) (omega arith)) in
    rw (word-cons s at 7 (omega arith), word-cons s (at + 1) 6 (omega arith), a, word-cons s (at + 2) 5 (omega arith), b)
    (rw (word-cons s (at + 3) 4 (omega arith), c) (omega arith))

-- a number that is stored, then what stands behind it
abbrev pub put : List ℕ → ℕ → ℕ → ℕ → List ℕ
put b at width v = sets b at (bytes_of width v)

pub put_then : (b rest : List ℕ) (at width v : ℕ) → sets b at (bytes_of width v ++ rest) ≡ sets (put b at width v) (at + width) rest
put_then b rest at width v = rw (sets-append b (bytes_of width v) rest at, bytes-length width v)

-- numbers of 4 bytes each: how many bytes, and those of number i on
module _ (xs : List ℕ) where
  word-long : (i : ℕ) → i < length xs → length (bytes_of 4 (get_or xs i 0)) ≡ 4
  word-long i h = bytes-length 4 (get_or xs i 0)

  pub words-length : length (words_of xs) ≡ 4 * length xs
  unfolding words_of
  words-length = joined_length (bytes_of 4) 0 4 xs word-long

  pub words-from : (i : ℕ) → i < length xs → drop (4 * i) (words_of xs) ≡ bytes_of 4 (get_or xs i 0) ++ drop (4 * (i + 1)) (words_of xs)
  unfolding words_of
  words-from = joined-from (bytes_of 4) 0 4 xs word-long
