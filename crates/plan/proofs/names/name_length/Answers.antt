use Rattle.std.proofs.Common.{rules, tests, ◌∙◌}
use Rattle.std.proofs.lemmas.Iterator.{YieldsList-from_slice}
use Rattle.std.proofs.lemmas.Iterator.Search.{position_from_yields_List}
use Rattle.plan.proofs.Fields.{is_other, length-found}
use Rattle.plan.proofs.names.name_length.Goals as goal

pub returns-clause-is : goal.returns-clause-is
returns-clause-is c =
    let field = c.args.field.now in
    let r = c.position.result in
    c.unwrap_or.ensures
    ∙ length-found field r
    (position_from_yields_List is_other _ _ r c.position.ensures.ran (YieldsList-from_slice field cc)
    (λ x b q k. search (rules, tests)))
