use Rattle.std.proofs.Common.{◌-◌, length}
use Rattle.plan.specs.Promises.{plan_tasks}
use Rattle.optimizer.specs.Search.{search}
use Rattle.optimizer.specs.Promises.{room_of}
use Rattle.optimizer.proofs.Searching.{Searching}
use Rattle.optimizer.proofs.search.search.Given as goal

abbrev pub invariant-loop-rounds : goal.invariant-loop-rounds
invariant-loop-rounds l =
    let ts = plan_tasks l.plan in
    Searching ts (search ts l.budget (room_of ts (length l.fn.work))) l.budget l.nodes l.incumbent (l.rounds - 1)
