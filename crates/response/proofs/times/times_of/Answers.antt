use Rattle.std.proofs.Common.{refl, rules, tests}
use Rattle.response.proofs.Refusals.{analysed}
use Rattle.response.proofs.times.times_of.Goals as goal

pub returns-clause-analyses : goal.returns-clause-analyses
returns-clause-analyses c =
    analysed refl c.in_ok-check_periods.ensures c.args.plan.now.valid refl (rw c.deref.ensures.0 at c.analyse.ensures)
    (search (rules, tests))
