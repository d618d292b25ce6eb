use Rattle.optimizer.proofs.Drop.{Counted}
use Rattle.optimizer.proofs.children.dropped_by.Given as goal

abbrev pub invariant-loop-i : goal.invariant-loop-i
invariant-loop-i l = Counted l.q l.node l.over l.i
