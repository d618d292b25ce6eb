use Rattle.std.proofs.Common.{◌≡◌, ◌++◌, ◌+◌, ◌*◌, ◌≤◌, length}
use Rattle.listing.specs.Text.{task_lines}
use Rattle.listing.specs.Inner.{line_size}
use Rattle.listing.proofs.lines.put_tasks.Given as goal

abbrev pub invariant-loop-i : goal.invariant-loop-i
invariant-loop-i l = let s = l.file.located.file.now in let xs = l.periods in record {
  puts : l.text.items ≡ l.initial.text.items ++ task_lines s xs l.i;
  few : length l.text.items ≤ length l.initial.text.items + line_size * l.i;
}
