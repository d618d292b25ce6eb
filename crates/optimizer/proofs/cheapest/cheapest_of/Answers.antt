use Rattle.std.proofs.Common.{◌≡◌, rules, replicate, ap, ◌∙◌, Err}
use Rattle.plan.specs.Faults.{none}
use Rattle.plan.specs.Promises.{plan_tasks}
use Rattle.optimizer.proofs.Concluding.{spaces-sized, spaces-room, longest-meet, concluded-refused, concluded-searched, called-concluded}
use Rattle.optimizer.proofs.Promised.{plans, plans-refused}
use Rattle.optimizer.proofs.cheapest.cheapest_of.Goals as goal

pub returns-in_err-check_spaces : goal.returns-in_err-check_spaces
returns-in_err-check_spaces c =
    let e : c.from_residual.result ≡ Err c.in_err-check_spaces.field-0.0 = search rules in
    rw e (plans-refused c.in_err-check_spaces.field-0.0 none (plan_tasks c.args.plan.now) _ _ _ c.in_err-check_spaces.ensures)

pub returns-in_err-check_feasible : goal.returns-in_err-check_feasible
returns-in_err-check_feasible c =
    let e : c.from_residual-in_err-check_feasible.result ≡ Err c.in_err-check_feasible.field-0.0 = search rules in
    rw e
    (plans none (plan_tasks c.args.plan.now) c.args.plan.now.valid _ _ _ _ _ _
    (called-concluded none _ _ _ c.in_ok-check_spaces.ensures _
    (concluded-refused c.in_err-check_feasible.field-0.0 _ _ c.in_err-check_feasible.ensures)))

pub search-conclusion-requires : goal.search-conclusion-requires
search-conclusion-requires c =
    let ts = plan_tasks c.args.plan.now in
    record {
      sized = spaces-sized ts _ _ c.in_ok-check_spaces.ensures;
      room = spaces-room ts _ _ c.in_ok-check_spaces.ensures;
      top = longest-meet ts c.in_ok-check_feasible.ensures;
    }

pub returns : goal.returns
returns c =
    let ts = plan_tasks c.args.plan.now in
    plans none ts c.args.plan.now.valid _ _ _ _ _ _
    (called-concluded none _ _ _ c.in_ok-check_spaces.ensures _
    (concluded-searched ts c.in_ok-check_feasible.ensures c.args.plan.now.valid _ _ c.search-conclusion.ensures
    (c.fill.ensures.after (λ y e. search rules) ∙ ap (λ k. replicate k 0) c.search-conclusion.auto.work)))
