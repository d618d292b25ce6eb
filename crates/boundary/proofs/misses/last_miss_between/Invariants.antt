use Rattle.boundary.proofs.Missing.{Between}
use Rattle.boundary.proofs.misses.last_miss_between.Given as goal

abbrev pub invariant-loop-j : goal.invariant-loop-j
invariant-loop-j l =
    Between l.tasks l.initial.u l.i l.k l.initial.miss.last l.most l.u l.miss.last l.miss.busy l.own l.j
