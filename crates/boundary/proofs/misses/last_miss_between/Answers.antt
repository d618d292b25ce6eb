use Rattle.std.proofs.Common.{arith}
use Rattle.boundary.proofs.Missing.{between-seeks, between-sought}
use Rattle.boundary.proofs.misses.last_miss_between.Goals as goal

pub last_miss-miss-requires : goal.last_miss-miss-requires
last_miss-miss-requires c =
    between-seeks c.loop-j.invariant (omega arith) c.own_demand-own-then-not-settles.ensures

pub loop-j-preserved-then-not-settles : goal.loop-j-preserved-then-not-settles
loop-j-preserved-then-not-settles c =
    let e = c.last_miss-miss.ensures in
    between-sought c.loop-j.invariant (omega arith) e.is e.responds e.moved c.own_demand-own-then-not-settles.ensures
