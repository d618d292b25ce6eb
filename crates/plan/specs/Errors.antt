-- Error enums, as numbers and places: "each fault gets its number and place".
use Rattle.std.specs.Prelude.{Result, Ok, Err}
use Rattle.plan.specs.declared.faults.Fault.{Fault}
use Rattle.plan.specs.declared.errors.ReadError.{ReadError}
use Rattle.plan.specs.declared.errors.ReadError.TheVariants.{FileLength, Version, TaskCount, TotalLength}
use Rattle.plan.specs.declared.errors.ReadError.TheVariants.{RowsOutside, NamesOutside, AreasOverlap, StrayByte}
use Rattle.plan.specs.declared.errors.ReadError.TheVariants.{OutsideLimits, PeriodsReversed, BadName, SameName}
use Rattle.plan.specs.declared.errors.WriteError.{WriteError}
use Rattle.plan.specs.declared.errors.WriteError.TheVariants.{Read, SpaceLength}
use Rattle.plan.specs.Faults.{fault, none}

-- the file's own rules, 1 to 11
abbrev pub read_error_fault : ReadError → Fault
read_error_fault FileLength = fault 1 0
read_error_fault Version = fault 2 0
read_error_fault TaskCount = fault 3 0
read_error_fault TotalLength = fault 4 0
read_error_fault RowsOutside = fault 5 1
read_error_fault NamesOutside = fault 5 2
read_error_fault AreasOverlap = fault 6 0
read_error_fault (StrayByte offset) = fault 7 offset
read_error_fault (OutsideLimits task) = fault 8 task
read_error_fault (PeriodsReversed task) = fault 9 task
read_error_fault (BadName task) = fault 10 task
read_error_fault (SameName task) = fault 11 task

-- and 40
abbrev pub write_error_fault : WriteError → Fault
write_error_fault (Read e) = read_error_fault e
write_error_fault (SpaceLength size) = fault 40 0

-- a result's refusal: none where it is no error
abbrev pub fault_by : {A E : Type 0} → (E → Fault) → Result A E → Fault
fault_by number (Ok a) = none
fault_by number (Err e) = number e

abbrev pub read_fault : {A : Type 0} → Result A ReadError → Fault
read_fault r = fault_by read_error_fault r
