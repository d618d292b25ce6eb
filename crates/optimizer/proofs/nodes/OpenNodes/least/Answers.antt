use Rattle.optimizer.proofs.Scans.{best-first, better, no-better, best-all}
use Rattle.optimizer.proofs.nodes.OpenNodes.least.Goals as goal
use Rattle.optimizer.proofs.nodes.OpenNodes.least.Goals.{then-is_less, else-is_less}

pub loop-node-init : goal.loop-node-init
loop-node-init c = best-first c.requires c.cost.ensures

pub loop-node-preserved : goal.loop-node-preserved
loop-node-preserved c =
    let b = c.loop-node.invariant in
    let h = c.loop-node-test.true in
    let e = rw (c.node.ensures, c.node-in-loop-node.ensures) at c.is_less.ensures in
    elim c.if-is_less.branch [
      | then-is_less w ↦ rw w.least-is (better b h c.cost-cost.ensures e w.if-is_less.true)
      | else-is_less w ↦ rw w.least-is (no-better b h c.cost-cost.ensures e w.if-is_less.false)
    ]

pub returns : goal.returns
returns c = best-all c.loop-node.invariant c.loop-node-test.false
