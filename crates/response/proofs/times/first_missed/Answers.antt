use Rattle.std.proofs.Common.{rules, tests, ◌≡◌, ◌∙◌, arith}
use Rattle.std.proofs.lemmas.Iterator.{IsFirst-from_position, YieldsList-from_slice}
use Rattle.std.proofs.lemmas.Grind.{common_steps}
use Rattle.response.proofs.Answers.{Late, Met, first-searched}
use Rattle.response.specs.Inner.{some_task}
use Rattle.response.specs.Promises.{number_or_none}
use Rattle.response.proofs.times.first_missed.Goals as goal

pub returns-clause-is : goal.returns-clause-is
returns-clause-is c =
    let ss = c.args.slacks.now in
    let e : number_or_none c.map.result ≡ some_task c.position.result = grind (arith, common_steps) in
    let found = IsFirst-from_position _ _ c.position.result Late Met c.position.ensures.ran
    (YieldsList-from_slice ss (cc)) (λ x q k. search (rules, tests)) (λ x q k. search (rules, tests)) in
    e ∙ first-searched ss c.position.result found
