use Rattle.std.proofs.Common.{rules, tests, Some, None}
use Rattle.std.proofs.lemmas.Iterator.{YieldsList-from_slice}
use Rattle.plan.proofs.Rules.{FirstPassing, position-passing}
use Rattle.plan.proofs.Gaps.{is_nonzero, part, first_nonzero}
use Rattle.plan.proofs.located.Located.check_gap.Goals as goal

pub returns-in-Some : goal.returns-in-Some
returns-in-Some c =
    let s = c.args.self.now.file.now in
    let gap = c.args.gap in
    let all = part s gap.start gap.end c.requires.ordered c.requires.inside in
    let first : FirstPassing is_nonzero all 0 (Some c.in-Some.i) =
    position-passing is_nonzero all 0 _ _ (Some c.in-Some.i) c.in-Some.ensures.ran (YieldsList-from_slice all cc)
    (λ x b q k. search (rules, tests)) in
    first_nonzero s gap.start gap.end c.requires.ordered c.requires.inside (Some c.in-Some.i) first

pub returns-in-None : goal.returns-in-None
returns-in-None c =
    let s = c.args.self.now.file.now in
    let gap = c.args.gap in
    let all = part s gap.start gap.end c.requires.ordered c.requires.inside in
    let first : FirstPassing is_nonzero all 0 None =
    position-passing is_nonzero all 0 _ _ None c.in-None.ensures.ran (YieldsList-from_slice all cc)
    (λ x b q k. search (rules, tests)) in
    first_nonzero s gap.start gap.end c.requires.ordered c.requires.inside None first
