-- The header, the two areas and the gaps. Task i is counted from 0 here; its place in a refusal is i + 1.
use Rattle.std.specs.Prelude.{Bool, ◌&&◌, ◌||◌, not, cond, List, ℕ, ◌+◌, ◌*◌, eqb, ltb, leb}
use Rattle.plan.specs.Words.{word}

-- "A header of 16 bytes: version at 0 (2 bytes, ..); n at 2 (2 bytes); offset of the rows at 4, offset of the
-- names at 8, total length at 12 (4 bytes each)"
abbrev pub header_width : ℕ
header_width = 16

abbrev pub version : List ℕ → ℕ
version s = word s 0 2

abbrev pub task_count : List ℕ → ℕ
task_count s = word s 2 2

abbrev pub rows_at : List ℕ → ℕ
rows_at s = word s 4 4

abbrev pub names_at : List ℕ → ℕ
names_at s = word s 8 4

abbrev pub total_length : List ℕ → ℕ
total_length s = word s 12 4

-- "The rows area is 20 × n bytes"; "Version 2 rows have 28 bytes": five or seven numbers, "4 bytes each"
abbrev pub row_numbers : ℕ → ℕ
row_numbers version = cond (eqb version 1) 5 7

abbrev pub row_size : ℕ → ℕ
row_size version = 4 * row_numbers version

abbrev pub row_width_of : List ℕ → ℕ
row_width_of s = row_size (version s)

-- "The names area is 16 × n bytes"
abbrev pub name_width : ℕ
name_width = 16

abbrev pub rows_end_of : List ℕ → ℕ
rows_end_of s = rows_at s + row_width_of s * task_count s

abbrev pub names_end_of : List ℕ → ℕ
names_end_of s = names_at s + name_width * task_count s

-- "an area starts before byte 16 or ends past the total"
abbrev pub outside : ℕ → ℕ → ℕ → Bool
outside total start end = ltb start header_width || ltb total end

-- "the areas share a byte"
abbrev pub overlap : ℕ → ℕ → ℕ → ℕ → Bool
overlap a b c d = ltb a d && ltb c b

-- "with gaps; every gap byte is zero": a byte after the header that is in no area
abbrev pub in_area : ℕ → ℕ → ℕ → Bool
in_area start end at = leb start at && ltb at end

abbrev pub in_gap : List ℕ → ℕ → Bool
in_gap s at = not (in_area (rows_at s) (rows_end_of s) at) && not (in_area (names_at s) (names_end_of s) at)
