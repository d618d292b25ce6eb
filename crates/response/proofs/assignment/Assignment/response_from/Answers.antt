use Rattle.std.proofs.Common.{arith}
use Rattle.response.proofs.Slack.{response-past}
use Rattle.response.proofs.Limits.{climbs-within, found-up_to}
use Rattle.response.proofs.assignment.Assignment.response_from.Goals as goal

pub busy_from-requires : goal.busy_from-requires
busy_from-requires c =
    let l = c.args.self.now.limits in
    climbs-within (omega (arith, l.sized)) (omega arith) c.requires.1

pub overflow_add-result : goal.overflow_add-result
overflow_add-result c =
    let t = found-up_to c.args.self.now.limits c.requires.0 c.busy_from.ensures c.in_ok-busy.was in
    omega (arith, t.early)

pub returns-then-start-gt-MAX_RESPONSE : goal.returns-then-start-gt-MAX_RESPONSE
returns-then-start-gt-MAX_RESPONSE c =
    let ts = c.args.self.now.tasks.now in
    let valid = c.args.self.now.limits.valid c.args.i (omega (arith, c.args.self.now.limits.sized, c.requires.0)) in
    response-past ts c.args.self.now.periods.now c.args.i valid c.requires.1 (omega arith)
