-- What a call returns, in the requirement's numbers.
use Rattle.std.specs.Prelude.{Result, Ok, Err}
use Rattle.plan.specs.declared.faults.Fault.{Fault}
use Rattle.plan.specs.Faults.{fault, none}
use Rattle.plan.specs.Errors.{read_error_fault, fault_by}
use Rattle.optimizer.specs.declared.errors.CallError.{CallError}
use Rattle.optimizer.specs.declared.errors.CallError.TheVariants.{Read, PeriodsLength, WorkLength}
use Rattle.optimizer.specs.declared.errors.CallError.TheVariants.{InfeasibleAlone, Infeasible}
use Rattle.optimizer.specs.declared.conclusion.Answer.{Answer}
use Rattle.optimizer.specs.declared.conclusion.Stop.{Stop}
use Rattle.optimizer.specs.declared.conclusion.Stop.TheVariants.{Budget, Room}
use Rattle.optimizer.specs.declared.conclusion.Conclusion.{Conclusion}
use Rattle.optimizer.specs.declared.conclusion.Conclusion.TheVariants.{Answered, Stopped}

-- the file's own rules, then 22, 24, 31 and 32
abbrev pub call_error_fault : CallError → Fault
call_error_fault (Read e) = read_error_fault e
call_error_fault PeriodsLength = fault 22 0
call_error_fault WorkLength = fault 24 0
call_error_fault (InfeasibleAlone task) = fault 31 task
call_error_fault (Infeasible task) = fault 32 task

-- 33 "at the budget", 34 "exceed the space"
abbrev pub stop_fault : Stop → Fault
stop_fault Budget = fault 33 0
stop_fault Room = fault 34 0

-- "Cost is 0 unless answered", but "With 33 and 34 .. cost is the best's."; "bound 0 except with 33 and 34, rounds 0
-- before the first round"
abbrev pub refused_answer : Fault → Answer
refused_answer f = record { fault = f; cost = 0; rounds = 0; bound = 0 }

abbrev pub conclusion_answer : Conclusion → Answer
conclusion_answer (Answered cost rounds) = record { fault = none; cost = cost; rounds = rounds; bound = 0 }
conclusion_answer (Stopped stop cost rounds bound) =
    record { fault = stop_fault stop; cost = cost; rounds = rounds; bound = bound }

abbrev pub answer_of : Result Conclusion CallError → Answer
answer_of (Ok c) = conclusion_answer c
answer_of (Err e) = refused_answer (call_error_fault e)

-- the refusal of a call's rule: none where it passed
abbrev pub call_error : {A : Type 0} → Result A CallError → Fault
call_error r = fault_by call_error_fault r
