use Rattle.std.proofs.Common.{◌≡◌, ◌≤◌, length, ◌+◌, ◌*◌}
use Rattle.plan.specs.Tasks.{max_ticks, max_blocking, max_jitter, task_at}
use Rattle.response.specs.Analysis.{own_demand, interference_above, max_response}
use Rattle.response.proofs.assignment.Assignment.demand.Given as goal

abbrev pub invariant-loop-task : goal.invariant-loop-task
invariant-loop-task l =
    let ts = l.self.tasks.now in
    let n = length l.yielded in
    record {
      is : l.sum ≡ own_demand (task_at ts l.i) + interference_above ts l.self.periods.now n l.t;
      few : l.sum ≤ max_ticks + max_blocking + max_ticks * (max_response + max_jitter) * n;
    }
