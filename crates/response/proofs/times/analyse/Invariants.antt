use Rattle.std.proofs.Common.{◌≡◌, ◌≤◌, ◌*◌, length}
use Rattle.plan.specs.Tasks.{max_ticks}
use Rattle.response.specs.Inner.{whole, utilization_above}
use Rattle.response.proofs.Answers.{Written}
use Rattle.response.proofs.times.analyse.Given as goal

abbrev pub invariant-loop-i : goal.invariant-loop-i
invariant-loop-i l = let ts = l.assignment.tasks.now in let xs = l.assignment.periods.now in record {
  sized : length l.slacks ≡ length xs;
  written : Written ts xs l.slacks l.i;
  above_is : l.above ≡ utilization_above ts xs l.i;
  few : l.above ≤ max_ticks * whole * l.i;
}
