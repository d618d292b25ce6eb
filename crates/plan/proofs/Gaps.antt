-- Gaps: the bytes in no area, and the first of them that is not zero.
use mathlib.Core.Path.{◌≡◌, refl, sym, ◌∙◌}
use mathlib.Core.Bool.{Bool, true, false, not, ◌&&◌, and-true, and_comm}
use mathlib.Core.Logic.{◌⊎◌, inl, inr}
use mathlib.Core.List.{List}
use Prim.Native.Nat.{ℕ, ◌+◌, ◌-◌, ◌≤◌, ◌<◌, min, max}
use native.Mathlib.Omega.{arith}
use lib.Dec.{eqb, leb}
use lib.ListN.{length, get_or}
use borrow.Author.Tests.{ltb-false, le-leb, lt-ltb, lt-leb, le-ltb}
use Rattle.std.specs.Prelude.{Option, None, Some}
use Rattle.std.specs.List.{between}
use Rattle.std.specs.Option.{MatchOption, option_map}
use Rattle.std.proofs.lemmas.List.Edits.{length-between, get_or-between}
use Rattle.plan.specs.declared.layout.Areas.{Areas}
use Rattle.plan.specs.Faults.{fault, none, or_else, first_from}
use Rattle.plan.specs.Layout.{header_width, rows_at, rows_end_of, names_at, names_end_of, overlap, in_area, in_gap}
use Rattle.plan.specs.Files.{stray_fault, gap_fault}
use Rattle.plan.specs.Inner.{AreasOf, byte_fault, bytes_fault}
use Rattle.plan.proofs.Tests.{le-or-lt, and_both, and-false}
use Rattle.plan.proofs.Rules.{run-same, run-on, run-all, run-found, FirstPassing, position-broken, fault_at}

-- where an area is, and where it is not
pub area-spans : (start end k : ℕ) → start ≤ k → k < end → in_area start end k ≡ true
area-spans start end k l m = and_both (le-leb start k l) (lt-ltb k end m)

area_before : (start end k : ℕ) → k < start → in_area start end k ≡ false
area_before start end k l = rw (lt-leb start k l) refl

area-behind : (start end k : ℕ) → end ≤ k → in_area start end k ≡ false
area-behind start end k l = rw (le-ltb k end l) (and-false (leb start k))

-- of a byte in a gap the rule asks that it is zero, of one in an area nothing
module _ (s : List ℕ) (start end : ℕ) (l : start ≤ end) where
  gap-run : ((k : ℕ) → start ≤ k → k < end → in_gap s k ≡ true)
      → first_from (stray_fault s) (end - start) start ≡ bytes_fault s start end
  gap-run g = run-same (stray_fault s) (byte_fault s) (end - start) start (λ k p q. rw (g k p (omega arith)))

  area-run : ((k : ℕ) → start ≤ k → k < end → in_gap s k ≡ false)
      → first_from (stray_fault s) (end - start) start ≡ none
  area-run g = run-all (stray_fault s) (end - start) start (λ k p q. rw (g k p (omega arith)))

-- areas from a to b and from c to d, in this order
module _ (s : List ℕ) (a b c d : ℕ) (gap : (k : ℕ) → in_gap s k ≡ (not (in_area a b k) && not (in_area c d k))) where
  three_gaps : header_width ≤ a → a ≤ b → b ≤ c → c ≤ d → d ≤ length s
      → gap_fault s ≡ or_else (bytes_fault s header_width a) (or_else (bytes_fault s b c) (bytes_fault s d (length s)))
  three_gaps ha ab bc cd dn =
      let f = stray_fault s in
      let n = length s in
      let before =
      gap-run s header_width a ha (λ k p q. rw (gap k, area_before a b k q, area_before c d k (omega arith))) in
      let first = area-run s a b ab (λ k p q. rw (gap k, area-spans a b k p q)) in
      let between = gap-run s b c bc (λ k p q. rw (gap k, area-behind a b k p, area_before c d k q)) in
      let second = area-run s c d cd (λ k p q. rw (gap k, area-spans c d k p q, and-false (not (in_area a b k)))) in
      let behind = gap-run s d n dn (λ k p q. rw (gap k, area-behind a b k (omega arith), area-behind c d k p)) in
      run-on f header_width a n ha (omega arith)
      ∙ rw (
        before,
        run-on f a b n ab (omega arith),
        first,
        run-on f b c n bc (omega arith),
        between,
        run-on f c d n cd dn,
        second,
        behind,
      )

-- the areas of a file that passed the rules 1 to 6, in whichever order
apart-order : (s : List ℕ) → overlap (rows_at s) (rows_end_of s) (names_at s) (names_end_of s) ≡ false
    → (rows_end_of s ≤ names_at s) ⊎ (names_end_of s ≤ rows_at s)
apart-order s e = elim (le-or-lt (rows_end_of s) (names_at s)) [
  | inl h ↦ inl h
  | inr h ↦ inr (ltb-false (rows_at s) (names_end_of s) (rw (lt-ltb (names_at s) (rows_end_of s) h, and-true) at e))
]

pub gaps_in_order : (s : List ℕ) (a : Areas) → AreasOf s a
    → gap_fault s
    ≡ or_else (bytes_fault s header_width (min a.rows.start a.names.start))
    (or_else (bytes_fault s (min a.rows.end a.names.end) (max a.rows.start a.names.start))
    (bytes_fault s (max a.rows.end a.names.end) (length s)))
gaps_in_order s a w =
    let r = a.rows in
    let m = a.names in
    elim (apart-order s w.apart) [
      | inl h ↦ let p : min r.start m.start ≡ rows_at s = omega (arith, w.rows, w.names) in
          let q : min r.end m.end ≡ rows_end_of s = omega (arith, w.rows_end, w.names_end) in
          let u : max r.start m.start ≡ names_at s = omega (arith, w.rows, w.names) in
          let v : max r.end m.end ≡ names_end_of s = omega (arith, w.rows_end, w.names_end) in
          rw (p, q, u, v)
          (three_gaps s (rows_at s) (rows_end_of s) (names_at s) (names_end_of s) (λ k. refl) w.rows-from
          (omega arith) h (omega arith) w.names_to)
      | inr h ↦ let p : min r.start m.start ≡ names_at s = omega (arith, w.rows, w.names) in
          let q : min r.end m.end ≡ names_end_of s = omega (arith, w.rows_end, w.names_end) in
          let u : max r.start m.start ≡ rows_at s = omega (arith, w.rows, w.names) in
          let v : max r.end m.end ≡ rows_end_of s = omega (arith, w.rows_end, w.names_end) in
          rw (p, q, u, v)
          (three_gaps s (names_at s) (names_end_of s) (rows_at s) (rows_end_of s)
          (λ k. and_comm (not (in_area (rows_at s) (rows_end_of s) k)) (not (in_area (names_at s) (names_end_of s) k)))
          w.names-from (omega arith) h (omega arith) w.rows_to)
    ]

-- the first byte of a gap that is not zero
abbrev pub is_nonzero : ℕ → Bool
is_nonzero b = not (eqb b 0)

module _ (s : List ℕ) (start end : ℕ) (l : start ≤ end) (m : end ≤ length s) where
  abbrev pub part : List ℕ
  part = between start end s

  part-length : start + length part ≡ end
  part-length = omega (arith, length-between s start end m)

  part-at : (k : ℕ) → k < length part → get_or part k 0 ≡ get_or s (start + k) 0
  part-at k h = get_or-between s start end k 0 (omega (arith, part-length))

  zero-passes : (k : ℕ) → k < length part → is_nonzero (get_or part k 0) ≡ false → (byte_fault s (start + k)).number ≡ 0
  zero-passes k h e = let z = rw (part-at k h) at e in rw z

  other_breaks : (k : ℕ) → k < length part → is_nonzero (get_or part k 0) ≡ true
      → (byte_fault s (start + k)).number ≡ 0 → ⊥
  other_breaks k h e z =
      let t : is_nonzero (get_or s (start + k) 0) ≡ true = rw (part-at k h) at e in
      let n : ◌≡◌ {A = ℕ} 7 0 = rw t at z in
      omega arith

  first-run : (r : Option ℕ) → FirstPassing is_nonzero part 0 r
      → bytes_fault s start end ≡ fault_at (byte_fault s) (option_map (λ k. start + k) r)
  first-run r h =
      rw part-length at
      (run-found (byte_fault s) start (start + length part) (option_map (λ k. start + k) r)
      (position-broken is_nonzero part 0 (byte_fault s) start zero-passes other_breaks r h))

  pub first_nonzero : (r : Option ℕ) → FirstPassing is_nonzero part 0 r
      → MatchOption r (none ≡ bytes_fault s start end) (λ k. fault 7 (start + k) ≡ bytes_fault s start end)
  first_nonzero None h = sym (first-run None h)
  first_nonzero (Some k) h =
      let e = rw (part-at k h.0) at (h.1 0) in
      sym (first-run (Some k) h ∙ rw e)
