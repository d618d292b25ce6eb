use Rattle.std.proofs.Common.{◌≡◌, ◌++◌, ◌+◌, ◌*◌, ◌≤◌, length}
use Rattle.listing.specs.Inner.{line_size}
use Rattle.feeders.specs.Text.{count_lines}
use Rattle.feeders.proofs.text.put_counts.Given as goal

abbrev pub invariant-loop-i : goal.invariant-loop-i
invariant-loop-i l = let s = l.file.located.file.now in record {
  puts : l.text.items ≡ l.initial.text.items ++ count_lines s l.counts l.i;
  few : length l.text.items ≤ length l.initial.text.items + line_size * l.i;
}
