use Rattle.std.proofs.Common.{suc, ◌+◌, ◌-◌, ◌≤◌}
use Rattle.plan.specs.Tasks.{task_at}
use Rattle.response.specs.Inner.{Begins}
use Rattle.response.proofs.assignment.Assignment.busy_from.Given as goal

abbrev pub invariant-loop-demand : goal.invariant-loop-demand
invariant-loop-demand l =
    let ts = l.self.tasks.now in
    record { begins : Begins (l.last + (task_at ts l.i).jitter) ts l.self.periods.now l.i l.t; early : l.t ≤ l.last }

abbrev pub decreases-loop-demand : goal.decreases-loop-demand
decreases-loop-demand l = suc l.last - l.t
