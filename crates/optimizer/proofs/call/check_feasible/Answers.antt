use Rattle.std.proofs.Common.{◌≡◌, rules, Err}
use Rattle.plan.specs.Tasks.{period_maxs}
use Rattle.plan.specs.Promises.{plan_tasks}
use Rattle.plan.proofs.Columns.{column-is}
use Rattle.optimizer.proofs.Concluding.{is-alone, is_none, is-feasible, longest-limits}
use Rattle.optimizer.proofs.call.check_feasible.Goals as goal

pub returns-in_err-check_alone : goal.returns-in_err-check_alone
returns-in_err-check_alone c =
    let e : c.from_residual.result ≡ Err c.in_err-check_alone.field-0.0 = search rules in
    rw e (is-alone (plan_tasks c.args.plan.now) c.in_err-check_alone.field-0.0 c.in_err-check_alone.ensures)

pub invariant_of-assignment : goal.invariant_of-assignment
invariant_of-assignment c =
    let longest : c.column-longest.result.items ≡ period_maxs (plan_tasks c.args.plan.now) =
    column-is (λ t. t.period_max) (λ t x k. search rules) _ _ c.column-longest.ensures in
    record {
      limits = rw (c.deref.ensures.0, c.deref-2.ensures.0, longest)
          (longest-limits (plan_tasks c.args.plan.now) c.args.plan.now.valid c.args.plan.now.few);
    }

pub returns-in-Some : goal.returns-in-Some
returns-in-Some c =
    let longest : c.column-longest.result.items ≡ period_maxs (plan_tasks c.args.plan.now) =
    column-is (λ t. t.period_max) (λ t x k. search rules) _ _ c.column-longest.ensures in
    is_none (plan_tasks c.args.plan.now) c.in_ok-check_alone.ensures
    (rw (c.deref.ensures.0, c.deref-2.ensures.0, longest) at (rw c.in-Some.is at c.first_unschedulable.ensures.first))

pub returns-in-None : goal.returns-in-None
returns-in-None c =
    let longest : c.column-longest.result.items ≡ period_maxs (plan_tasks c.args.plan.now) =
    column-is (λ t. t.period_max) (λ t x k. search rules) _ _ c.column-longest.ensures in
    is-feasible (plan_tasks c.args.plan.now) c.in_ok-check_alone.ensures
    (rw (c.deref.ensures.0, c.deref-2.ensures.0, longest) at (rw c.in-None.is at c.first_unschedulable.ensures.first))
