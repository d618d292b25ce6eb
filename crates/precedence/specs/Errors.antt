-- FEEDERS's errors, as numbers and places.
use Rattle.std.specs.Prelude.{Result}
use Rattle.plan.specs.declared.faults.Fault.{Fault}
use Rattle.plan.specs.Faults.{fault}
use Rattle.plan.specs.Errors.{read_error_fault, fault_by}
use Rattle.precedence.specs.declared.errors.PrecedenceError.{PrecedenceError}
use Rattle.precedence.specs.declared.errors.PrecedenceError.TheVariants.{Read, ListLength, NoSuchTask, SpaceLength}

-- the file's own rules, then 61, 62 and 40
abbrev pub precedence_error_fault : PrecedenceError → Fault
precedence_error_fault (Read e) = read_error_fault e
precedence_error_fault ListLength = fault 61 0
precedence_error_fault (NoSuchTask pair) = fault 62 pair
precedence_error_fault SpaceLength = fault 40 0

abbrev pub precedence_error : {A : Type 0} → Result A PrecedenceError → Fault
precedence_error r = fault_by precedence_error_fault r
