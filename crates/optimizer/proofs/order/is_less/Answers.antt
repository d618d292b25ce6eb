use Rattle.std.proofs.Common.{sym, ◌∙◌}
use Rattle.response.proofs.Order.{first-eq}
use Rattle.optimizer.proofs.Ordering.{before-is}
use Rattle.optimizer.proofs.order.is_less.Goals as goal

pub returns-then-a_cost-b_cost-2 : goal.returns-then-a_cost-b_cost-2
returns-then-a_cost-b_cost-2 c =
    before-is c.args.a.now c.args.b.now c.lt.result c.lt.ensures ∙ sym (first-eq c.args.a_cost c.args.b_cost _ c.if-a_cost-b_cost-2.true)
