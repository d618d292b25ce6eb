-- Names compared by their two words of eight bytes.
use mathlib.Core.Path.{◌≡◌, refl, sym, ap, ◌∙◌}
use mathlib.Core.Bool.{Bool, true, false, ◌&&◌, or-false}
use mathlib.Core.List.{List, [], ◌∷◌, ◌++◌}
use Prim.Native.Nat.{ℕ, zero, suc, ◌+◌, ◌-◌, ◌*◌, ◌≤◌, ◌<◌}
use native.Mathlib.Omega.{arith}
use native.Mathlib.Numerals.{add-one}
use lib.Dec.{eqb}
use lib.ListN.{length, take, drop, length-drop}
use lib.Seq.{length-take-le, take_all, get_or-drop}
use Rattle.std.specs.List.{list_any}
use Rattle.std.proofs.Math.Bool.{and_assoc}
use Rattle.std.proofs.lemmas.List.Folds.{list_any-append}
use Rattle.plan.specs.declared.names.NameWords.{NameWords}
use Rattle.plan.specs.Lists.{same, tabulate}
use Rattle.plan.specs.Words.{IsBytes, value_of, word}
use Rattle.plan.specs.Layout.{name_width, names_at, names_end_of, task_count}
use Rattle.plan.specs.Names.{name_field, named_earlier}
use Rattle.plan.specs.Faults.{fault, none, first_from}
use Rattle.plan.specs.Files.{repeat_fault, same_name_fault}
use Rattle.plan.specs.Inner.{name_words, same_words}
use Rattle.plan.proofs.Lists.{tabulate-more}
use Rattle.plan.proofs.Rules.{run-next, run-task, run_end}
use Rattle.plan.proofs.Bytes.{same-value}
use Rattle.plan.proofs.Fields.{field-length}

-- two lists are the same where both of their parts are
same-parts : (k : ℕ) (l m : List ℕ) → same l m ≡ (same (take k l) (take k m) && same (drop k l) (drop k m))
same-parts zero l m = refl
same-parts (suc k) [] [] = refl
same-parts (suc k) [] (y ∷ ys) = refl
same-parts (suc k) (x ∷ xs) [] = refl
same-parts (suc k) (x ∷ xs) (y ∷ ys) = ap (λ b. eqb x y && b) (same-parts k xs ys) ∙ sym (and_assoc (eqb x y) _ _)

bytes-take : (n : ℕ) (l : List ℕ) → IsBytes l → IsBytes (take n l)
bytes-take zero l h k = omega arith
bytes-take (suc n) [] h k = omega arith
bytes-take (suc n) (x ∷ l) h zero = h 0
bytes-take (suc n) (x ∷ l) h (suc k) = bytes-take n l (λ j. h (suc j)) k

bytes-drop : (n : ℕ) (l : List ℕ) → IsBytes l → IsBytes (drop n l)
bytes-drop n l h k = rw (get_or-drop n l k 0) (h (n + k))

-- two name fields are equal exactly where both words are
pub equal-fields : (l m : List ℕ) → length l ≡ name_width → length m ≡ name_width → IsBytes l → IsBytes m
    → same l m ≡ same_words (name_words l) (name_words m)
equal-fields l m e f p q =
    let long : length (take 8 l) ≡ length (take 8 m) =
    length-take-le 8 l (omega arith) ∙ sym (length-take-le 8 m (omega arith)) in
    let first : same (take 8 l) (take 8 m) ≡ eqb (word l 0 8) (word m 0 8) =
    same-value (take 8 l) (take 8 m) long (bytes-take 8 l p) (bytes-take 8 m q) in
    let a : take 8 (drop 8 l) ≡ drop 8 l = take_all 8 (drop 8 l) (omega (arith, length-drop 8 l)) in
    let b : take 8 (drop 8 m) ≡ drop 8 m = take_all 8 (drop 8 m) (omega (arith, length-drop 8 m)) in
    let short : length (drop 8 l) ≡ length (drop 8 m) = omega (arith, length-drop 8 l, length-drop 8 m) in
    let second : same (drop 8 l) (drop 8 m) ≡ eqb (value_of (drop 8 l)) (value_of (drop 8 m)) =
    same-value (drop 8 l) (drop 8 m) short (bytes-drop 8 l p) (bytes-drop 8 m q) in
    rw (same-parts 8 l m, first, second, a, b)

-- the fields of a file, and the words of its first names
module _ (s : List ℕ) where
  abbrev pub words_at : ℕ → NameWords
  words_at i = name_words (name_field s i)

  module _ (fits : names_end_of s ≤ length s) (bytes : IsBytes s) where
    field-bytes : (i : ℕ) → IsBytes (name_field s i)
    field-bytes i =
        let at : ℕ = names_at s + name_width * i in bytes-take name_width (drop at s) (bytes-drop at s bytes)

    earlier-words : (i j : ℕ) → i < task_count s → j ≤ task_count s
        → list_any (same_words (words_at i)) (tabulate words_at j 0) ≡ named_earlier s i j
    earlier-words i zero h l = refl
    earlier-words i (suc j) h l =
        let z : 0 + j ≡ j = omega arith in
        let t : NameWords → Bool = same_words (words_at i) in
        let long : length (name_field s j) ≡ name_width = field-length s fits j (omega arith) in
        let this : same (name_field s i) (name_field s j) ≡ t (words_at j) =
        equal-fields (name_field s i) (name_field s j) (field-length s fits i h) long (field-bytes i) (field-bytes j) in
        ap (list_any t) (rw z at (tabulate-more words_at j 0))
        ∙ list_any-append t (tabulate words_at j 0) (words_at j ∷ [])
        ∙ rw (earlier-words i j h (omega arith), this, or-false (t (words_at j)))

  -- the words of the first i names, of which none is an earlier one's
  pub record Differing (names : List NameWords) (i : ℕ) : Type 0 where
    pub words : names ≡ tabulate words_at i 0
    pub so_far : same_name_fault s ≡ first_from (repeat_fault s) (task_count s - i) i

  module _ {names : List NameWords} {i : ℕ} (d : Differing names i) where
    pub all-differ : task_count s ≤ i → none ≡ same_name_fault s
    all-differ l = sym (d.so_far ∙ run_end (repeat_fault s) (task_count s) i l)

    -- the next name, among them or not
    module _ (fits : names_end_of s ≤ length s) (bytes : IsBytes s) (l : i < task_count s) (name : NameWords)
        (is : name ≡ words_at i) where
      among-is : {b : Bool} → b ≡ list_any (same_words name) names → named_earlier s i i ≡ b
      among-is h = sym (h ∙ rw (is, d.words) (earlier-words fits bytes i i l (omega arith)))

      pub name-repeated : true ≡ list_any (same_words name) names → fault 11 (i + 1) ≡ same_name_fault s
      name-repeated h =
          let here : named_earlier s i i ≡ true = among-is h in
          sym (d.so_far ∙ run-task (repeat_fault s) (task_count s) i 10 l (rw here))

      pub name-differs : false ≡ list_any (same_words name) names → Differing (names ++ (name ∷ [])) (i + 1)
      name-differs h =
          let z : 0 + i ≡ i = omega arith in
          let here : named_earlier s i i ≡ false = among-is h in
          record {
            words = rw (is, d.words, add-one) (sym (rw z at (tabulate-more words_at i 0)));
            so_far = d.so_far ∙ run-next (repeat_fault s) (task_count s) i l (rw here);
          }
