use Rattle.std.proofs.Common.{◌≤◌, length}
use Rattle.examples.proofs.enumeration.Enumeration.new.Given as goal

abbrev pub invariant-loop-k : goal.invariant-loop-k
invariant-loop-k l = length l.met.items ≤ l.k
