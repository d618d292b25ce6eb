use Rattle.std.proofs.Common.{rules, ◌∙◌}
use Rattle.std.proofs.lemmas.Slice.Zip.{AllZip-long}
use Rattle.plan.specs.Promises.{plan_tasks}
use Rattle.plan.proofs.Columns.{column-is}
use Rattle.optimizer.proofs.Scans.{weighed}
use Rattle.optimizer.proofs.incumbent.longest.Goals as goal

pub cost_of-cost-requires : goal.cost_of-cost-requires
cost_of-cost-requires c =
    let p = c.args.plan.now in
    let ts = plan_tasks p in
    let ws = column-is (λ t. t.weight) (λ t x k. search rules) ts c.column.result.items c.column.ensures in
    let long = AllZip-long _ ts c.column-periods.result.items c.column-periods.ensures in
    rw (c.deref.ensures.0 ∙ ws, c.deref-2.ensures.0) (weighed ts p.valid p.few long)

pub returns : goal.returns
returns c =
    let ts = plan_tasks c.args.plan.now in
    let ws = column-is (λ t. t.weight) (λ t x k. search rules) ts c.column.result.items c.column.ensures in
    let xs = column-is (λ t. t.period_max) (λ t x k. search rules) ts c.column-periods.result.items c.column-periods.ensures in
    record { periods = xs; costs = rw (c.deref.ensures.0 ∙ ws, c.deref-2.ensures.0 ∙ xs) at c.cost_of-cost.ensures }
