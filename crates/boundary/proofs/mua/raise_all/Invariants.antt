use Rattle.boundary.proofs.Raising.{Raising}
use Rattle.boundary.proofs.mua.raise_all.Given as goal

abbrev pub invariant-loop-i : goal.invariant-loop-i
invariant-loop-i l = Raising l.tasks l.initial.u l.i l.u l.above
