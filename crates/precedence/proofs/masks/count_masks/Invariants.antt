use Rattle.std.proofs.Common.{◌≡◌, length, map, take}
use Rattle.std.specs.Prelude.{count_ones}
use Rattle.precedence.proofs.masks.count_masks.Given as goal

abbrev pub invariant-loop-i : goal.invariant-loop-i
invariant-loop-i l = record {
  sized : length l.counts ≡ length l.initial.counts;
  counted : take l.i l.counts ≡ map count_ones (take l.i l.masks);
}
