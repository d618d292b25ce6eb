use Rattle.std.proofs.Common.{◌≡◌, length, ◌∙◌, arith}
use Rattle.response.proofs.Answers.{all-written}
use Rattle.response.proofs.times.analyse.Goals as goal

pub returns : goal.returns
returns c =
    let v = c.loop-i.invariant in
    let e : c.loop-i.i ≡ length c.loop-i.slacks = omega arith in
    all-written c.args.assignment.now.tasks.now c.args.assignment.now.periods.now c.loop-i.slacks
    (v.sized ∙ c.args.assignment.now.limits.sized) (rw e at v.written)
