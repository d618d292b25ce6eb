use Rattle.std.proofs.Common.{arith}
use Rattle.boundary.proofs.Missing.{begins-past, from-small, from-begins, from-below, from_last, from-alone}
use Rattle.boundary.proofs.misses.last_miss_from.Goals as goal

pub overflow_add-own : goal.overflow_add-own
overflow_add-own c = omega (arith, from-small c.requires)

pub returns-then-lowest-i-clause-is : goal.returns-then-lowest-i-clause-is
returns-then-lowest-i-clause-is c = from-alone c.requires c.max-from.ensures c.if-lowest-i.true

pub returns-then-lowest-i-clause-begins : goal.returns-then-lowest-i-clause-begins
returns-then-lowest-i-clause-begins c = begins-past c.requires.range c.requires.begins _

pub begin_below-begin-requires : goal.begin_below-begin-requires
begin_below-begin-requires c = from-begins c.requires c.if-lowest-i.false

pub last_miss_below-requires : goal.last_miss_below-requires
last_miss_below-requires c =
    rw c.max.ensures (from-below c.requires c.max-from.ensures c.if-lowest-i.false c.begin_below-begin.ensures)

pub returns-clause-is : goal.returns-clause-is
returns-clause-is c = from_last c.requires c.max-from.ensures c.last_miss_below.ensures.is
