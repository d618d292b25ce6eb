use Prim.Native.Nat.{◌+◌, ◌-◌}
use Rattle.boundary.proofs.Missing.{Probing}
use Rattle.boundary.proofs.misses.last_miss.Given as goal

abbrev pub invariant-loop-last : goal.invariant-loop-last
invariant-loop-last l =
    Probing l.tasks l.initial.u l.i l.k l.low l.most l.end l.u l.last l.high l.busy l.begin l.turn

abbrev pub decreases-loop-last : goal.decreases-loop-last
decreases-loop-last l = l.most + 1 - l.turn
