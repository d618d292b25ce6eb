use Rattle.optimizer.proofs.Drop.{Marked}
use Rattle.optimizer.proofs.children.dropped.Given as goal

abbrev pub invariant-loop-k : goal.invariant-loop-k
invariant-loop-k l = Marked l.nodes l.node l.mua l.marks l.k
