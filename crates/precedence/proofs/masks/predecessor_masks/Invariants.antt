use Rattle.std.proofs.Common.{◌≡◌}
use Rattle.precedence.proofs.Closure.{closed}
use Rattle.precedence.proofs.masks.predecessor_masks.Given as goal

abbrev pub invariant-loop-task : goal.invariant-loop-task
invariant-loop-task l = l.masks ≡ closed l.task l.initial.masks
