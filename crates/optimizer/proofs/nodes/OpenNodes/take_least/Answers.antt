use Rattle.std.proofs.Common.{◌≡◌, rules, ◌∙◌}
use Rattle.optimizer.proofs.nodes.OpenNodes.take_least.Goals as goal

pub returns-clause-taken : goal.returns-clause-taken
returns-clause-taken c =
    let l = c.least-least.ensures in
    let copy : c.unwrap-periods.result.items ≡ c.node.result.now = search rules in
    record {
      least = copy ∙ c.node.ensures ∙ l.least;
      costs = l.costs;
      count = c.remove.ensures.count;
      rest = rw (← l.least) c.remove.ensures.removed;
    }
