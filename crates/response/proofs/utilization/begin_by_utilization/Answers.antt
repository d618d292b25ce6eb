use Rattle.std.proofs.Common.{arith, ◌-◌}
use Rattle.response.specs.Inner.{whole}
use Rattle.response.proofs.Idle.{idle-begins}
use Rattle.response.proofs.utilization.begin_by_utilization.Goals as goal

pub returns : goal.returns
returns c =
    let left = whole - c.args.above in
    idle-begins c.requires.0 (omega arith) (omega arith) (rw (c.from.ensures, c.from-2.ensures) at c.min.ensures)
