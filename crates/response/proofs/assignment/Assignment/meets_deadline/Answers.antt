use Rattle.std.proofs.Common.{arith, sym, ◌∙◌}
use Rattle.response.proofs.Found.{is-found}
use Rattle.response.proofs.Limits.{climbs-own}
use Rattle.response.proofs.Slack.{meets-in-time}
use Rattle.response.proofs.assignment.Assignment.meets_deadline.Goals as goal

pub busy_from-requires : goal.busy_from-requires
busy_from-requires c =
    let l = c.args.self.now.limits in
    rw (c.own_demand-start.ensures, c.last_end.ensures)
    (climbs-own l c.requires (omega (arith, l.most c.args.i)))

pub returns : goal.returns
returns c =
    let ts = c.args.self.now.tasks.now in
    let l = c.args.self.now.limits in
    let e = rw (c.busy_from.ensures, c.last_end.ensures) at c.is_some.ensures in
    e ∙ is-found _ ∙ sym (meets-in-time ts c.args.self.now.periods.now c.args.i (l.valid c.args.i (omega (arith, l.sized))))
