use Rattle.optimizer.proofs.Space.{nodes-append-set}
use Rattle.optimizer.proofs.Scans.{stretch_in}
use Rattle.optimizer.proofs.nodes.OpenNodes.append_child.Goals as goal

pub returns-clause-listed : goal.returns-clause-listed
returns-clause-listed c =
    let o = c.args.self.now in
    let f = rw (← c.requires.node.0) at (stretch_in o c.requires.room) in
    rw (c.place.ensures.count, c.place.ensures.same.weights, c.place.ensures.placed, ← c.requires.node.0)
    (nodes-append-set o.count o.work.now c.args.node.now c.args.i c.args.period f c.requires.node.1)
