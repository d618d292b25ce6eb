use Rattle.std.proofs.Common.{◌≡◌, length, take}
use Rattle.plan.specs.Tasks.{max_tasks}
use Rattle.precedence.specs.Inner.{HasNamed}
use Rattle.precedence.proofs.masks.named_masks.Given as goal

abbrev pub invariant-loop-pair : goal.invariant-loop-pair
invariant-loop-pair l = record {
  sized : length l.masks ≡ max_tasks;
  named : HasNamed (take l.pair-index l.pairs) l.masks;
}
