use Rattle.optimizer.proofs.Scans.{Summed}
use Rattle.optimizer.proofs.order.cost_of.Given as goal

abbrev pub invariant-loop-i : goal.invariant-loop-i
invariant-loop-i l = Summed l.weights l.periods l.sum l.i
