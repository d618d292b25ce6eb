-- Parts of one length that are joined; and lists stored part by part.
use mathlib.Core.Path.{◌≡◌, sym, ap, ◌∙◌}
use mathlib.Core.List.{List, [], ◌∷◌, ◌++◌, map}
use Prim.Native.Nat.{ℕ, zero, suc, ◌+◌, ◌*◌, ◌≤◌, ◌<◌}
use native.Mathlib.Omega.{arith}
use lib.ListN.{length, get_or, drop, length-append, drop_of_length-le}
use lib.Seq.{sets, length-sets, drop-append-add}
use Rattle.plan.specs.Lists.{joined}
use Rattle.plan.proofs.Lists.{sets-append}

-- where part i ends
pub part_end : (w i : ℕ) → w * (i + 1) ≡ w * i + w
part_end w i = omega arith

module _ {A : Type 0} (f : A → List ℕ) (d : A) (w : ℕ) where
  -- each part has w bytes
  abbrev pub Wide : List A → Type 0
  Wide l = (i : ℕ) → i < length l → length (f (get_or l i d)) ≡ w

  module _ (x : A) (l : List A) (h : Wide (x ∷ l)) where
    first-wide : length (f x) ≡ w
    first-wide = h 0 (omega arith)

    rest-wide : Wide l
    rest-wide i k = h (suc i) (omega arith)

  pub joined_length : (l : List A) → Wide l → length (joined (map f l)) ≡ w * length l
  joined_length [] h = omega arith
  joined_length (x ∷ l) h = simp length-append (omega (arith, first-wide x l h, joined_length l (rest-wide x l h)))

  -- part i, and those behind it
  pub joined-from : (l : List A) → Wide l → (i : ℕ) → i < length l
      → drop (w * i) (joined (map f l)) ≡ f (get_or l i d) ++ drop (w * (i + 1)) (joined (map f l))
  joined-from [] h i k = let z : ⊥ = omega arith in absurd z
  joined-from (x ∷ l) h zero k =
      let none : w * 0 ≡ 0 = omega arith in
      let one : w * (0 + 1) ≡ length (f x) + 0 = omega (arith, first-wide x l h) in
      rw (none, one, drop-append-add (f x) (joined (map f l)) 0)
  joined-from (x ∷ l) h (suc i) k =
      let n = first-wide x l h in
      let here : w * suc i ≡ length (f x) + w * i = omega arith in
      let next : w * (suc i + 1) ≡ length (f x) + w * (i + 1) = omega arith in
      rw (
        here,
        next,
        drop-append-add (f x) (joined (map f l)) (w * i),
        drop-append-add (f x) (joined (map f l)) (w * (i + 1)),
      )
      (joined-from l (rest-wide x l h) i (omega arith))

-- xs is stored from at on in what was out₀, up to its element k
pub record Stored (xs : List ℕ) (at : ℕ) (out₀ out : List ℕ) (k : ℕ) : Type 0 where
  pub size : length out ≡ length out₀
  pub left : sets out (at + k) (drop k xs) ≡ sets out₀ at xs

module _ {xs : List ℕ} {at : ℕ} {out₀ out : List ℕ} {k : ℕ} (d : Stored xs at out₀ out k) where
  -- the next elements, up to the one at m
  pub stored_more : (vs out' : List ℕ) (m : ℕ) → drop k xs ≡ vs ++ drop m xs → m ≡ k + length vs → out' ≡ sets out (at + k) vs
      → Stored xs at out₀ out' m
  stored_more vs out' m e n o =
      let a : at + m ≡ at + k + length vs = omega arith in
      record {
        size = ap length o ∙ length-sets out (at + k) vs ∙ d.size;
        left = rw (o, a) (sym (sets-append out vs (drop m xs) (at + k)) ∙ rw e at d.left);
      }

  pub stored-all : length xs ≤ k → out ≡ sets out₀ at xs
  stored-all h = rw (drop_of_length-le xs h) at d.left
