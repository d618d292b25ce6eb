use Rattle.precedence.proofs.Joining.{Joined}
use Rattle.precedence.proofs.masks.join_through.Given as goal

abbrev pub invariant-loop-mask : goal.invariant-loop-mask
invariant-loop-mask l = Joined l.task l.mask-index l.masks l.initial.masks
