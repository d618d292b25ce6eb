use Rattle.std.proofs.Common.{rules, tests, sym, ◌∙◌}
use Rattle.std.proofs.lemmas.Iterator.{YieldsList-from_slice}
use Rattle.std.proofs.lemmas.Iterator.Search.{all_from_yields_List}
use Rattle.plan.specs.Canonical.{is_plain}
use Rattle.plan.proofs.Versions.{version-is}
use Rattle.plan.proofs.writer.version_for.Goals as goal

pub returns-then-all : goal.returns-then-all
returns-then-all c =
    let ts = c.args.tasks.now in
    let e = all_from_yields_List is_plain _ _ c.all.result c.all.ensures.ran (YieldsList-from_slice ts cc)
    (λ x b q k. search (rules, tests)) in
    sym (version-is ts ∙ rw (← e, c.if-all.true))

pub returns-else-all : goal.returns-else-all
returns-else-all c =
    let ts = c.args.tasks.now in
    let e = all_from_yields_List is_plain _ _ c.all.result c.all.ensures.ran (YieldsList-from_slice ts cc)
    (λ x b q k. search (rules, tests)) in
    sym (version-is ts ∙ rw (← e, c.if-all.false))
