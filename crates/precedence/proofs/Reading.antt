-- From the bytes of a list to its pairs.
use mathlib.Core.Path.{◌≡◌, refl, sym}
use mathlib.Core.List.{List, [], ◌∷◌, ◌++◌, map}
use mathlib.Core.Bool.{Bool, true, false, cond}
use mathlib.Core.Logic.{inl, inr}
use Prim.Native.Nat.{ℕ, suc, ◌+◌, ◌/◌, ◌≤◌, ◌<◌}
use native.Mathlib.Omega.{arith}
use native.Mathlib.Numerals.{add-one}
use lib.Dec.{ltb}
use lib.ListN.{length, get_or, take, get_or-map, length-map}
use Rattle.std.specs.Prelude.{Option, Some, None}
use Rattle.std.specs.List.{position_or_len}
use Rattle.std.proofs.lemmas.List.{get_or-take, length-take-le, take_more}
use Rattle.std.proofs.lemmas.List.Elements.{All-get_or, All-push}
use Rattle.std.proofs.lemmas.List.Sums.{position_or_len_is}
use Rattle.std.specs.Simd.{first_chunks}
use borrow.Author.Tests.{ne_eqb, not-false, lt-ltb, le-ltb, le-leb}
use Rattle.plan.specs.Faults.{fault, none}
use Rattle.plan.specs.Tasks.{between}
use Rattle.plan.proofs.Tests.{bool, and_left, and_right, between_le}
use Rattle.precedence.specs.declared.pairs.Pair.{Pair}
use Rattle.precedence.specs.Pairs.{pairs_of, first_pair, is_outside, pairs_fault}
use Rattle.precedence.specs.Inner.{OfTasks, AllOfTasks, pair_of}

-- two bytes a pair
pub chunks-pairs : (list : List ℕ) → map pair_of (first_chunks 2 (length list / 2) list) ≡ pairs_of list
chunks-pairs [] = refl
chunks-pairs (k ∷ []) = refl
chunks-pairs (k ∷ i ∷ rest) =
    let e : suc (suc (length rest)) / 2 ≡ suc (length rest / 2) = omega arith in rw (e, chunks-pairs rest)

-- what stands past a list's end
abbrev pub no_pair : Pair
no_pair = record { predecessor = 0; successor = 0 }

module _ (chunks : List (List ℕ)) {ps : List Pair} (splits : map pair_of chunks ≡ ps) where
  pub chunks-long : length ps ≡ length chunks
  chunks-long = rw (← splits) (length-map chunks pair_of)

  pub chunk-pair : (i : ℕ) → pair_of (get_or chunks i []) ≡ get_or ps i no_pair
  chunk-pair i = rw (← splits) (sym (get_or-map pair_of chunks i []))

-- what a pair is tested for
inside-of : (n : ℕ) (p : Pair) → is_outside n p ≡ false → OfTasks n p
inside-of n p e =
    let inside = not-false _ e in
    let a = between_le 1 p.predecessor n (and_left (between 1 p.predecessor n) (between 1 p.successor n) inside) in
    let b = between_le 1 p.successor n (and_right (between 1 p.predecessor n) (between 1 p.successor n) inside) in
    record { first = a.0; first_most = a.1; second = b.0; second_most = b.1 }

not-outside : (n : ℕ) (p : Pair) → OfTasks n p → is_outside n p ≡ false
not-outside n p t =
    rw (
      le-leb 1 p.predecessor t.first,
      le-leb p.predecessor n t.first_most,
      le-leb 1 p.successor t.second,
      le-leb p.successor n t.second_most,
    ) refl

-- the first i pairs of a list read, all of tasks
pub record FirstRead (n : ℕ) (ps : List Pair) (i : ℕ) (items : List Pair) : Type 0 where
  pub are : items ≡ take i ps
  pub inside : AllOfTasks n items

module _ {n i : ℕ} {ps items : List Pair} (v : FirstRead n ps i items) (within : i ≤ length ps) where
  before : (k : ℕ) → k < i → is_outside n (get_or ps k no_pair) ≡ false
  before k h =
      let room : k < length items = rw v.are (omega (arith, length-take-le i ps within)) in
      let at : get_or items k no_pair ≡ get_or ps k no_pair = rw v.are (get_or-take i ps k no_pair h) in
      not-outside n (get_or ps k no_pair) (rw at at (All-get_or (OfTasks n) items k no_pair room v.inside))

  pub all-read : length ps ≤ i → none ≡ pairs_fault n ps
  all-read h =
      let at = position_or_len_is (is_outside n) ps i no_pair within before
      (λ l. let z : ⊥ = omega arith in absurd z) in
      rw (at, le-ltb i (length ps) h) refl

  module _ {p : Pair} (next : p ≡ get_or ps i no_pair) (h : i < length ps) where
    pub one-more-read : is_outside n p ≡ false → FirstRead n ps (i + 1) (items ++ p ∷ [])
    one-more-read e = record {
      are = rw (take_more ps i no_pair h, v.are, next);
      inside = All-push (OfTasks n) items p v.inside (inside-of n p e);
    }

    pub found-outside : is_outside n p ≡ true → fault 62 (length items + 1) ≡ pairs_fault n ps
    found-outside e =
        let at = position_or_len_is (is_outside n) ps i no_pair within before (λ l. rw next at e) in
        let long : length items ≡ i = rw v.are (length-take-le i ps within) in
        rw (long, at, lt-ltb i (length ps) h, ne_eqb (suc i) 0 (λ z. omega arith), add-one) refl

-- what a search for a pair finds, counted from 1
abbrev pub number_of : Option ℕ → ℕ
number_of None = 0
number_of (Some i) = suc i

pub first-found : (test : Pair → Bool) (ps : List Pair) (found : Option ℕ)
    → found ≡ cond (ltb (position_or_len test ps) (length ps)) (Some (position_or_len test ps)) None
    → number_of found ≡ first_pair test ps
first-found test ps found e = rw e (elim (bool (ltb (position_or_len test ps) (length ps))) [
  | inl t ↦ rw t refl
  | inr t ↦ rw t refl
])
