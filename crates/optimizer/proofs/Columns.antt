-- The weights of a plan's tasks.
use Rattle.std.proofs.Common.{arith}
use Rattle.std.proofs.lemmas.List.{length-map}
use Rattle.plan.specs.declared.record.Plan.{Plan}
use Rattle.plan.specs.Tasks.{weights}
use Rattle.plan.specs.Promises.{plan_tasks}
use Rattle.response.proofs.Ranges.{light}
use Rattle.optimizer.specs.Space.{Light}

pub weights-light : (p : Plan) → Light (weights (plan_tasks p))
weights-light p =
    let ts = plan_tasks p in
    let long = length-map ts (λ t. t.weight) in
    record { some = omega (arith, p.some); few = omega (arith, p.few); light = light ts p.valid }
