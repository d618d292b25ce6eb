-- Refusals 1 to 11 in their order, with their places (docs/FORMAT.md, "Numbers and places"); the tasks and names of an
-- accepted file.
use Rattle.std.specs.Prelude.{Bool, ◌&&◌, not, cond, List, [], ◌∷◌, ℕ, suc, ◌+◌, ◌-◌, ◌*◌, eqb, ltb, length, get_or}
use Rattle.plan.specs.declared.faults.Fault.{Fault}
use Rattle.plan.specs.declared.tasks.Task.{Task}
use Rattle.plan.specs.Lists.{tabulate}
use Rattle.plan.specs.Faults.{fault_if, passed, or_else, first_fault, first_from}
use Rattle.plan.specs.Tasks.{max_tasks, min_file, max_file, between, within_limits, row_at}
use Rattle.plan.specs.Layout.{header_width, version, task_count, total_length, row_width_of}
use Rattle.plan.specs.Layout.{rows_at, rows_end_of, names_at, names_end_of, outside, overlap, in_gap}
use Rattle.plan.specs.Names.{name_field, name_ok, without_zeros, named_earlier}

-- "1: length below 16 or above 2,048. Place 0."
abbrev pub length_fault : List ℕ → Fault
length_fault s = fault_if (not (between min_file (length s) max_file)) 1 0

-- "2: version not 1. Place 0."; "2 now means neither 1 nor 2"
abbrev pub version_fault : List ℕ → Fault
version_fault s = fault_if (not (between 1 (version s) 2)) 2 0

-- "3: n not 1 to 16. Place 0."
abbrev pub count_fault : List ℕ → Fault
count_fault s = fault_if (not (between 1 (task_count s) max_tasks)) 3 0

-- "4: total differs from the file's length. Place 0."
abbrev pub total_fault : List ℕ → Fault
total_fault s = fault_if (not (eqb (total_length s) (length s))) 4 0

-- "5: an area starts before byte 16 or ends past the total. Place 1 for rows, else 2 for names."
abbrev pub rows_fault : List ℕ → Fault
rows_fault s = fault_if (outside (length s) (rows_at s) (rows_end_of s)) 5 1

abbrev pub names_fault : List ℕ → Fault
names_fault s = fault_if (outside (length s) (names_at s) (names_end_of s)) 5 2

-- "6: the areas share a byte. Place 0."
abbrev pub overlap_fault : List ℕ → Fault
overlap_fault s = fault_if (overlap (rows_at s) (rows_end_of s) (names_at s) (names_end_of s)) 6 0

-- "7: a gap byte is not zero. Place: the offset of the first such byte."
abbrev pub is_stray : List ℕ → ℕ → Bool
is_stray s at = in_gap s at && not (eqb (get_or s at 0) 0)

abbrev pub stray_fault : List ℕ → ℕ → Fault
stray_fault s at = fault_if (is_stray s at) 7 at

abbrev pub gap_fault : List ℕ → Fault
gap_fault s = first_from (stray_fault s) (length s - header_width) header_width

-- "Then job by job: 8, a field outside its limits; 9, lo above hi; 10, a name not as above. Place: the job."
abbrev pub task_of : List ℕ → ℕ → Task
task_of s i = row_at s (rows_at s + row_width_of s * i)

abbrev pub row_fault : Task → ℕ → Fault
row_fault t i =
    or_else (fault_if (not (within_limits t)) 8 (suc i)) (fault_if (ltb t.period_max t.period_min) 9 (suc i))

abbrev pub task_fault : List ℕ → ℕ → Fault
task_fault s i = or_else (row_fault (task_of s i) i) (fault_if (not (name_ok (name_field s i))) 10 (suc i))

abbrev pub tasks_fault : List ℕ → Fault
tasks_fault s = first_from (task_fault s) (task_count s) 0

-- "11: a name equal to an earlier one. Place: the first such later job."
abbrev pub repeat_fault : List ℕ → ℕ → Fault
repeat_fault s i = fault_if (named_earlier s i i) 11 (suc i)

abbrev pub same_name_fault : List ℕ → Fault
same_name_fault s = first_from (repeat_fault s) (task_count s) 0

-- "in this order": the header's rules, the areas', the gaps, the tasks one by one, their names
abbrev pub header_fault : List ℕ → Fault
header_fault s = first_fault (length_fault s ∷ version_fault s ∷ count_fault s ∷ total_fault s ∷ [])

abbrev pub areas_fault : List ℕ → Fault
areas_fault s = first_fault (rows_fault s ∷ names_fault s ∷ overlap_fault s ∷ [])

abbrev pub layout_fault : List ℕ → Fault
layout_fault s = or_else (header_fault s) (areas_fault s)

unfoldable pub file_fault : List ℕ → Fault
file_fault s = first_fault (layout_fault s ∷ gap_fault s ∷ tasks_fault s ∷ same_name_fault s ∷ [])

-- "A plan is accepted if its file breaks none of the rules 1 to 11."
abbrev pub accepted : List ℕ → Bool
accepted s = passed (file_fault s)

-- the tasks of a file; none where it is refused
unfoldable pub tasks_of : List ℕ → List Task
tasks_of s = cond (accepted s) (tabulate (task_of s) (task_count s) 0) []

-- whether a file is accepted and a task number, counted from 1, is one of its tasks
abbrev pub is_named : List ℕ → ℕ → Bool
is_named s task = accepted s && between 1 task (task_count s)

-- "the part of the caller's own bytes that holds the name, without its zeros"
abbrev pub name_of : List ℕ → ℕ → List ℕ
name_of s task = cond (is_named s task) (without_zeros (name_field s (task - 1))) []

-- the names of a file, as NAME gives them, in the order of its tasks
unfoldable pub names_of : List ℕ → List (List ℕ)
names_of s = tabulate (λ i. name_of s (suc i)) (length (tasks_of s)) 0
