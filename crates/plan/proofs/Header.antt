-- The header and the areas: what the rules 1 to 6 say of a file that passed them, and of the layout's answer.
use mathlib.Core.Path.{◌≡◌, refl}
use mathlib.Core.Bool.{not}
use mathlib.Core.List.{List, [], ◌∷◌}
use Prim.Native.Nat.{ℕ, suc, ◌≤◌}
use lib.Dec.{ltb}
use lib.ListN.{length}
use borrow.Author.Tests.{ltb-false, not-false}
use Rattle.plan.specs.Faults.{none, fault_if, first_fault}
use Rattle.plan.specs.Tasks.{min_file, max_file, max_tasks, between}
use Rattle.plan.specs.Layout.{header_width, task_count, rows_at, rows_end_of, names_at, names_end_of, outside, overlap}
use Rattle.plan.specs.Files.{length_fault, version_fault, count_fault, total_fault, rows_fault, names_fault, overlap_fault}
use Rattle.plan.specs.Files.{header_fault, areas_fault, layout_fault}
use Rattle.plan.specs.Inner.{areas_of, AreasOf}
use Rattle.plan.proofs.Tests.{or_left, or_right, between_le}
use Rattle.plan.proofs.Rules.{or-first, or-second, if-passed}

in-range : (low x high n p : ℕ) → (fault_if (not (between low x high)) (suc n) p).number ≡ 0 → (low ≤ x) × (x ≤ high)
in-range low x high n p e =
    between_le low x high (not-false (between low x high) (if-passed (not (between low x high)) n p e))

inside : (total start end n p : ℕ) → (fault_if (outside total start end) (suc n) p).number ≡ 0 → (header_width ≤ start) × (end ≤ total)
inside total start end n p e =
    let early = ltb start header_width in
    let late = ltb total end in
    let b = if-passed (outside total start end) n p e in
    (ltb-false start header_width (or_left early late b), ltb-false total end (or_right early late b))

-- a header that passed the rules 1 to 4
pub record Header (s : List ℕ) : Type 0 where
  pub long : min_file ≤ length s
  pub short : length s ≤ max_file
  pub some : 1 ≤ task_count s
  pub few : task_count s ≤ max_tasks

module _ (s : List ℕ) where
  pub header : (header_fault s).number ≡ 0 → Header s
  header e =
      let from2 = first_fault (version_fault s ∷ count_fault s ∷ total_fault s ∷ []) in
      let from3 = first_fault (count_fault s ∷ total_fault s ∷ []) in
      let e3 = or-second (version_fault s) from3 (or-second (length_fault s) from2 e) in
      let size = in-range min_file (length s) max_file 0 0 (or-first (length_fault s) from2 e) in
      let count = in-range 1 (task_count s) max_tasks 2 0 (or-first (count_fault s) (first_fault (total_fault s ∷ [])) e3) in
      record { long = size.0; short = size.1; some = count.0; few = count.1 }

  pub areas_of_lem : (layout_fault s).number ≡ 0 → AreasOf s (areas_of s)
  areas_of_lem e =
      let h = header (or-first (header_fault s) (areas_fault s) e) in
      let a = or-second (header_fault s) (areas_fault s) e in
      let rest = first_fault (names_fault s ∷ overlap_fault s ∷ []) in
      let b = or-second (rows_fault s) rest a in
      let rows = inside (length s) (rows_at s) (rows_end_of s) 4 1 (or-first (rows_fault s) rest a) in
      let names = inside (length s) (names_at s) (names_end_of s) 4 2 (or-first (names_fault s) (first_fault (overlap_fault s ∷ [])) b) in
      let apart = if-passed (overlap (rows_at s) (rows_end_of s) (names_at s) (names_end_of s)) 5 0
      (or-first (overlap_fault s) none (or-second (names_fault s) (first_fault (overlap_fault s ∷ [])) b)) in
      record {
        version = refl;
        tasks = refl;
        row_width = refl;
        rows = refl;
        rows_end = refl;
        names = refl;
        names_end = refl;
        some = h.some;
        few = h.few;
        short = h.short;
        rows-from = rows.0;
        rows_to = rows.1;
        names-from = names.0;
        names_to = names.1;
        apart = apart;
      }
