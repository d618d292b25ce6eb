use Rattle.std.proofs.Common.{arith}
use Rattle.response.specs.Analysis.{max_response}
use Rattle.response.proofs.Exactness.{own-some, own-begins}
use Rattle.response.proofs.assignment.Assignment.response_time.Goals as goal

pub response_from-requires : goal.response_from-requires
response_from-requires c =
    let ts = c.args.self.now.tasks.now in
    let l = c.args.self.now.limits in
    let works = own-some ts l.valid c.args.i (omega (arith, l.sized)) in
    (c.requires, rw c.own_demand-start.ensures (own-begins max_response ts c.args.self.now.periods.now c.args.i works))
