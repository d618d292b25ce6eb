use Rattle.optimizer.proofs.Scans.{Best}
use Rattle.optimizer.proofs.nodes.OpenNodes.least.Given as goal

abbrev pub invariant-loop-node : goal.invariant-loop-node
invariant-loop-node l = Best l.self l.least l.node
