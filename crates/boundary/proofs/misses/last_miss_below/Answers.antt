use Rattle.boundary.proofs.Missing.{begins-past}
use Rattle.boundary.proofs.misses.last_miss_below.Goals as goal

pub returns-then-lowest-last-clause-begins : goal.returns-then-lowest-last-clause-begins
returns-then-lowest-last-clause-begins c = begins-past c.requires.range c.requires.begins _
