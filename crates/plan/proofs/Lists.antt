-- Lists that are tabulated: their length, elements, ends and images; and lists that are stored into others.
use mathlib.Core.Path.{◌≡◌, refl, sym, ap}
use mathlib.Core.List.{List, [], ◌∷◌, ◌++◌, append-nil, append_assoc}
use Prim.Native.Nat.{ℕ, zero, suc, ◌+◌, ◌≤◌, ◌<◌}
use native.Mathlib.Omega.{arith}
use lib.ListN.{length, get_or, set, drop_of_length-le}
use lib.Seq.{sets, sets-eq, drop-drop}
use borrow.Rule.Slice.PartMut.{put_mid}
use Rattle.plan.specs.Lists.{tabulate}

module _ {A : Type 0} (f : ℕ → A) where
  pub tabulate-length : (n i : ℕ) → length (tabulate f n i) ≡ n
  tabulate-length zero i = refl
  tabulate-length (suc n) i = ap suc (tabulate-length n (suc i))

  pub tabulate-at : (n i k : ℕ) (d : A) → k < n → get_or (tabulate f n i) k d ≡ f (i + k)
  tabulate-at zero i k d h = let z : ⊥ = omega arith in absurd z
  tabulate-at (suc n) i zero d h = let e : i + 0 ≡ i = omega arith in rw e
  tabulate-at (suc n) i (suc k) d h = let e : i + suc k ≡ suc i + k = omega arith in rw e (tabulate-at n (suc i) k d (omega arith))

  pub tabulate-more : (n i : ℕ) → tabulate f (suc n) i ≡ tabulate f n i ++ (f (i + n) ∷ [])
  tabulate-more zero i = let e : i + 0 ≡ i = omega arith in rw e
  tabulate-more (suc n) i = let e : i + suc n ≡ suc i + n = omega arith in rw e (ap (λ (l : List A). f i ∷ l) (tabulate-more n (suc i)))

pub tabulate-same : {A : Type 0} (f g : ℕ → A) (n i : ℕ) → ((k : ℕ) → i ≤ k → k < i + n → f k ≡ g k) → tabulate f n i ≡ tabulate g n i
tabulate-same f g zero i h = refl
tabulate-same f g (suc n) i h =
    rw (h i (omega arith) (omega arith), tabulate-same f g n (suc i) (λ k p q. h k (omega arith) (omega arith)))

-- one list stored behind another
pub sets-append : (l a b : List ℕ) (i : ℕ) → sets l i (a ++ b) ≡ sets (sets l i a) (i + length a) b
sets-append l [] b i = let e : i + 0 ≡ i = omega arith in rw e
sets-append l (v ∷ a) b i =
    let e : i + suc (length a) ≡ suc i + length a = omega arith in rw e (sets-append (set l i v) a b (suc i))

pub sets-whole : (l vs : List ℕ) → length l ≡ length vs → sets l 0 vs ≡ vs
sets-whole l vs e =
    let z : 0 + length vs ≡ length vs = omega arith in
    let a : 0 + length vs ≤ length l = omega arith in
    let b : length l ≤ length vs = omega arith in
    rw (sets-eq vs l 0 a, z, drop_of_length-le l b) (append-nil vs)

-- a part of a list that is written over
pub written-over : (l ys vs : List ℕ) (at k : ℕ) → at + length vs ≤ length l → k ≡ length vs → ys ≡ vs
    → put_mid at k l ys ≡ sets l at vs
written-over l ys vs at k h e y = rw (y, e, drop-drop (length vs) at l, ← append_assoc) (sym (sets-eq vs l at h))
