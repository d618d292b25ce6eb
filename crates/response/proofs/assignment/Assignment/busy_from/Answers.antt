use Rattle.std.proofs.Common.{arith}
use Rattle.response.proofs.Exactness.{own-some, past, stops, goes_on}
use Rattle.response.proofs.assignment.Assignment.busy_from.Goals as goal

pub returns-then-last-start : goal.returns-then-last-start
returns-then-last-start c =
    let ts = c.args.self.now.tasks.now in
    let works = own-some ts c.args.self.now.limits.valid c.args.i c.requires.inside in
    past works c.requires.begins (omega arith)

pub loop-demand-preserved : goal.loop-demand-preserved
loop-demand-preserved c =
    record {
      begins = goes_on c.loop-demand.invariant.begins c.demand-demand.ensures (omega arith);
      early = omega arith;
    }

pub returns-then-demand-from : goal.returns-then-demand-from
returns-then-demand-from c =
    let ts = c.args.self.now.tasks.now in
    let works = own-some ts c.args.self.now.limits.valid c.args.i c.requires.inside in
    stops works c.loop-demand.invariant.begins c.demand-demand.ensures (omega arith) (omega arith)

pub returns-then-from-demand : goal.returns-then-from-demand
returns-then-from-demand c =
    let ts = c.args.self.now.tasks.now in
    let works = own-some ts c.args.self.now.limits.valid c.args.i c.requires.inside in
    past works (goes_on c.loop-demand.invariant.begins c.demand-demand.ensures (omega arith)) (omega arith)
