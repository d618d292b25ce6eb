-- TIMES's errors, as numbers and places.
use Rattle.std.specs.Prelude.{Result}
use Rattle.plan.specs.declared.faults.Fault.{Fault}
use Rattle.plan.specs.Faults.{fault}
use Rattle.plan.specs.Errors.{read_error_fault, fault_by}
use Rattle.response.specs.declared.errors.TimesError.{TimesError}
use Rattle.response.specs.declared.errors.TimesError.TheVariants.{Read, PeriodsLength, SpaceLength, OutOfBounds}

-- the file's own rules, then 21, 22 and 23
abbrev pub times_error_fault : TimesError → Fault
times_error_fault (Read e) = read_error_fault e
times_error_fault PeriodsLength = fault 21 0
times_error_fault SpaceLength = fault 22 0
times_error_fault (OutOfBounds task) = fault 23 task

abbrev pub times_error : {A : Type 0} → Result A TimesError → Fault
times_error r = fault_by times_error_fault r
