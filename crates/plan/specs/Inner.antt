-- What the inner functions promise, for their callers' proofs. A reader of the public calls needs none of it.
use Rattle.std.specs.Prelude.{◌≡◌, Bool, true, false, not, ◌&&◌, List, [], ◌∷◌, length, get_or}
use Rattle.std.specs.Prelude.{ℕ, suc, ◌+◌, ◌-◌, ◌*◌, ◌≤◌, eqb}
use Rattle.plan.specs.declared.tasks.Task.{Task}
use Rattle.plan.specs.declared.layout.Areas.{Areas}
use Rattle.plan.specs.declared.faults.Fault.{Fault}
use Rattle.plan.specs.declared.names.NameWords.{NameWords}
use Rattle.std.specs.declared.ops.Range.{Range}
use Rattle.plan.specs.Faults.{fault_if, first_from}
use Rattle.plan.specs.Lists.{tabulate}
use Rattle.plan.specs.Tasks.{max_tasks, max_file}
use Rattle.plan.specs.Layout.{header_width, version, task_count, row_size, row_width_of}
use Rattle.plan.specs.Layout.{rows_at, rows_end_of, names_at, names_end_of, overlap}
use Rattle.plan.specs.Words.{word}
use Rattle.plan.specs.Names.{is_name_byte}
use Rattle.plan.specs.Files.{task_of}

-- the areas of a file
abbrev pub areas_of : List ℕ → Areas
areas_of s = record {
  version = version s;
  tasks = task_count s;
  row_width = row_width_of s;
  rows = record { start = rows_at s; end = rows_end_of s };
  names = record { start = names_at s; end = names_end_of s };
}

-- the areas of a file that passed rules 1 to 6
pub record AreasOf (s : List ℕ) (a : Areas) : Type 0 where
  pub version : a.version ≡ version s
  pub tasks : a.tasks ≡ task_count s
  pub row_width : a.row_width ≡ row_width_of s
  pub rows : a.rows.start ≡ rows_at s
  pub rows_end : a.rows.end ≡ rows_end_of s
  pub names : a.names.start ≡ names_at s
  pub names_end : a.names.end ≡ names_end_of s
  pub some : 1 ≤ task_count s
  pub few : task_count s ≤ max_tasks
  pub short : length s ≤ max_file
  pub rows-from : header_width ≤ rows_at s
  pub rows_to : rows_end_of s ≤ length s
  pub names-from : header_width ≤ names_at s
  pub names_to : names_end_of s ≤ length s
  pub apart : overlap (rows_at s) (rows_end_of s) (names_at s) (names_end_of s) ≡ false

-- a part of a file
pub record IsPart (part : Range ℕ) (s : List ℕ) : Type 0 where
  pub ordered : part.start ≤ part.end
  pub inside : part.end ≤ length s
  pub short : length s ≤ max_file

-- rule 7 of a byte that is in a gap, and of those from one offset to another
abbrev pub byte_fault : List ℕ → ℕ → Fault
byte_fault s at = fault_if (not (eqb (get_or s at 0) 0)) 7 at

abbrev pub bytes_fault : List ℕ → ℕ → ℕ → Fault
bytes_fault s start end = first_from (byte_fault s) (end - start) start

-- a part of the bytes that stand at p, from an offset of them on
pub record IsAt (p : ℕ × ℕ) (at : ℕ) (p' : ℕ × ℕ) : Type 0 where
  pub block : p'.0 ≡ p.0
  pub offset : p'.1 ≡ at + p.1

-- how many name bytes a field begins with
abbrev pub name_length : List ℕ → ℕ
name_length [] = 0
name_length (b ∷ bs) = elim (is_name_byte b) [ true ↦ suc (name_length bs) | false ↦ 0 ]

-- a name field as two numbers of eight bytes, and whether two names have the same
abbrev pub name_words : List ℕ → NameWords
name_words field = record { first = word field 0 8; second = word field 8 8 }

abbrev pub same_words : NameWords → NameWords → Bool
same_words v w = eqb v.first w.first && eqb v.second w.second

-- rules 8 to 10 alone: every task of the file
abbrev pub Decodes : List ℕ → List Task → Type 0
Decodes s ts = ts ≡ tabulate (task_of s) (task_count s) 0

-- there is room for the rows of so few tasks in a version
pub record HasRows (v : ℕ) (ts : List Task) (out : List ℕ) : Type 0 where
  pub few : length ts ≤ max_tasks
  pub fits : header_width + row_size v * length ts ≤ length out
