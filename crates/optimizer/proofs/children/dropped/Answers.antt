use Rattle.optimizer.proofs.Drop.{marked_all, mark-every, mark-none, mark-one}
use Rattle.optimizer.proofs.children.dropped.Goals as goal
use Rattle.optimizer.proofs.children.dropped.Goals.{in-One, in-Nothing}

pub returns-in-All : goal.returns-in-All
returns-in-All c =
    mark-every c.requires c.loop-k.invariant c.loop-k-test.true c.node.ensures c.dropped_by.ensures c.in-All.is

pub loop-k-preserved : goal.loop-k-preserved
loop-k-preserved c =
    let m = c.loop-k.invariant in
    let h = c.loop-k-test.true in
    let q = c.node.ensures in
    let d = c.dropped_by.ensures in
    elim c.match-dropped_by.branch [
      | in-One w ↦ rw w.marks-is (mark-one c.requires m h q d w.in-One.is)
      | in-Nothing w ↦ rw w.marks-is (mark-none c.requires m h q d w.in-Nothing.is)
    ]

pub returns : goal.returns
returns c = marked_all c.requires c.loop-k.invariant c.loop-k-test.false
