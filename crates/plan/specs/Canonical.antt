-- The canonical form: "Write any accepted file in one fixed form: rows at 16, names right after, no gaps."
use Rattle.std.specs.Prelude.{Bool, true, false, ◌&&◌, cond, List, [], ◌∷◌, ◌++◌, map, ℕ, ◌+◌, ◌-◌, eqb, length, take, replicate}
use Rattle.plan.specs.declared.tasks.Task.{Task}
use Rattle.plan.specs.Lists.{joined}
use Rattle.plan.specs.Words.{bytes_of, words_of}
use Rattle.plan.specs.Tasks.{row_of}
use Rattle.plan.specs.Layout.{header_width, row_numbers, name_width}
use Rattle.plan.specs.Files.{accepted, tasks_of, names_of}

-- "The fixed form is version 1 when every hold and late is 0, else version 2."
abbrev pub is_plain : Task → Bool
is_plain t = eqb t.blocking 0 && eqb t.jitter 0

abbrev pub version_for : List Task → ℕ
version_for [] = 1
version_for (t ∷ ts) = elim (is_plain t) [ true ↦ version_for ts | false ↦ 2 ]

-- "per job C, lo, hi, cap, w, 4 bytes each"; in version 2 "after the weight come hold and late"
abbrev pub row_bytes : ℕ → Task → List ℕ
row_bytes version t = words_of (take (row_numbers version) (row_of t))

-- "a name .., then zero bytes to its end"
abbrev pub name_bytes : List ℕ → List ℕ
name_bytes name = name ++ replicate (name_width - length name) 0

-- the version, n tasks, their rows at 16, their names, and the total length
unfoldable pub header_bytes : ℕ → ℕ → ℕ → ℕ → List ℕ
header_bytes version n names total =
    bytes_of 2 version ++ (bytes_of 2 n ++ words_of (header_width ∷ names ∷ total ∷ []))

-- the two areas
abbrev pub rows_bytes : ℕ → List Task → List ℕ
rows_bytes version ts = joined (map (row_bytes version) ts)

abbrev pub names_bytes : List (List ℕ) → List ℕ
names_bytes ns = joined (map name_bytes ns)

-- where each ends: the rows stand behind the header, the names behind the rows
abbrev pub rows_to : List Task → ℕ
rows_to ts = header_width + length (rows_bytes (version_for ts) ts)

abbrev pub names_to : List Task → List (List ℕ) → ℕ
names_to ts ns = rows_to ts + length (names_bytes ns)

-- the form of tasks and names, whatever file they come from
unfoldable pub canonical : List Task → List (List ℕ) → List ℕ
canonical ts ns =
    header_bytes (version_for ts) (length ts) (rows_to ts) (names_to ts ns)
    ++ (rows_bytes (version_for ts) ts ++ names_bytes ns)

-- of a file; nothing where it is refused
unfoldable pub canonical_of : List ℕ → List ℕ
canonical_of s = cond (accepted s) (canonical (tasks_of s) (names_of s)) []
