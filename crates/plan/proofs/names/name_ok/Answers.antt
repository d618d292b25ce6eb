use Rattle.std.proofs.Common.{◌≤◌, rules, tests, arith, length, sym, ◌∙◌, eqb, le-leb, drop}
use Rattle.std.proofs.lemmas.Bool.{eqb-false}
use Rattle.std.proofs.lemmas.Iterator.{YieldsList-from_slice}
use Rattle.std.proofs.lemmas.Iterator.Search.{all_from_yields_List}
use Rattle.plan.specs.Inner.{name_length}
use Rattle.plan.proofs.Fields.{all_zero-is, name_ok-is}
use Rattle.plan.proofs.names.name_ok.Goals as goal

pub returns-then-not-is_empty : goal.returns-then-not-is_empty
returns-then-not-is_empty c =
    let field = c.args.field.now in
    let k = name_length field in
    let some = eqb-false (length c.split_at.result.0.now) 0 (sym c.if-not-is_empty.ensures) in
    let h : 1 ≤ k = omega arith in
    let zeros =
    all_from_yields_List (λ b. eqb b 0) _ _ c.all.result c.all.ensures.ran (YieldsList-from_slice (drop k field) cc)
    (λ x b q k. search (rules, tests)) in
    zeros ∙ sym (name_ok-is field ∙ rw (le-leb 1 k h) (all_zero-is (drop k field)))
