use Rattle.std.proofs.Common.{◌≡◌, ◌-◌, length}
use Rattle.plan.specs.Faults.{first_from}
use Rattle.plan.specs.TaskSets.{tasks_in}
use Rattle.response.specs.Promises.{bound_fault, bounds_fault}
use Rattle.response.proofs.times.check_bounds.Given as goal

abbrev pub invariant-loop-i : goal.invariant-loop-i
invariant-loop-i l =
    let ts = tasks_in l.tasks in
    let n = length l.yielded in
    bounds_fault ts l.periods ≡ first_from (bound_fault ts l.periods) (length ts - n) n
