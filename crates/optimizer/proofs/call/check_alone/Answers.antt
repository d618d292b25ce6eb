use Rattle.std.proofs.Common.{◌≡◌, true, false, rules, tests, refl, length, sym, ◌∙◌, Some}
use Rattle.std.proofs.lemmas.List.{get_or_default}
use Rattle.std.proofs.lemmas.Iterator.{IsFirst-from_position, YieldsList-from_slice}
use Rattle.std.proofs.lemmas.Iterator.Consumers.{YieldsList-turn}
use Rattle.plan.specs.Tasks.{no_task}
use Rattle.plan.specs.Promises.{plan_tasks}
use Rattle.optimizer.specs.Promises.{infeasible_alone}
use Rattle.optimizer.proofs.Concluding.{alone-none, alone-some}
use Rattle.optimizer.proofs.call.check_alone.Goals as goal

pub position-requires-clause-callable : goal.position-requires-clause-callable
position-requires-clause-callable c =
    record {
      at = λ xs t q x u y f s.
          let ts = plan_tasks c.args.plan.now in
          let k = YieldsList-turn (YieldsList-from_slice ts cc) xs t y (Some x) u x refl s in
          rw (k.1 ∙ get_or_default ts (length xs) x.now no_task k.0) (c.args.plan.now.valid (length xs) k.0);
    }

pub returns-in-Some : goal.returns-in-Some
returns-in-Some c =
    let ts = plan_tasks c.args.plan.now in
    let first = rw c.in-Some.is at
    (IsFirst-from_position _ _ c.position.result (λ t. infeasible_alone t ≡ true) (λ t. infeasible_alone t ≡ false)
    c.position.ensures.ran (YieldsList-from_slice ts cc) (λ x q k. search (rules, tests))
    (λ x q k. search (rules, tests))) in
    sym (alone-some ts c.in-Some.i first)

pub returns-in-None : goal.returns-in-None
returns-in-None c =
    let ts = plan_tasks c.args.plan.now in
    let first = rw c.in-None.is at
    (IsFirst-from_position _ _ c.position.result (λ t. infeasible_alone t ≡ true) (λ t. infeasible_alone t ≡ false)
    c.position.ensures.ran (YieldsList-from_slice ts cc) (λ x q k. search (rules, tests))
    (λ x q k. search (rules, tests))) in
    sym (alone-none ts first)
