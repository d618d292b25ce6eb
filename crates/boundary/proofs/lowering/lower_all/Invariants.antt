use lib.ListN.{length}
use Rattle.response.specs.Analysis.{schedulable}
use Rattle.boundary.specs.Lowering.{lowering_from}
use Rattle.boundary.proofs.Lowered.{Lowering}
use Rattle.boundary.proofs.lowering.lower_all.Given as goal

abbrev pub invariant-loop-i : goal.invariant-loop-i
invariant-loop-i l =
    let ts = l.tasks in
    let node = l.node.periods.items in
    let goal = lowering_from (length node) (schedulable ts) node l.initial.x 0 in
    Lowering ts node goal l.i l.x l.cost l.own l.start
