use Rattle.std.proofs.Common.{arith}
use Rattle.std.proofs.lemmas.Result.{err_from_is_err_and}
use Rattle.plan.proofs.Gaps.{gaps_in_order}
use Rattle.plan.proofs.Numbers.{read_error_first}
use Rattle.plan.proofs.located.Located.check_gaps.Goals as goal

pub returns-in_err-check_gap : goal.returns-in_err-check_gap
returns-in_err-check_gap c =
    let p = err_from_is_err_and c.from_residual.result c.from_residual.ensures.1 in
    let gaps = gaps_in_order c.args.self.now.file.now c.args.self.now.areas c.args.self.now.placed in
    rw (p.1, p.2) (grind (arith, gaps, c.in_err-check_gap.ensures, read_error_first))

pub returns-in_err-check_gap-2 : goal.returns-in_err-check_gap-2
returns-in_err-check_gap-2 c =
    let p = err_from_is_err_and c.from_residual-in_err-check_gap-2.result
    c.from_residual-in_err-check_gap-2.ensures.1 in
    let gaps = gaps_in_order c.args.self.now.file.now c.args.self.now.areas c.args.self.now.placed in
    let e1 = c.in_ok-check_gap.ensures in
    let e2 = c.in_err-check_gap-2.ensures in
    rw (p.1, p.2) (grind (arith, gaps, e1, e2, read_error_first))

pub returns : goal.returns
returns c =
    let gaps = gaps_in_order c.args.self.now.file.now c.args.self.now.areas c.args.self.now.placed in
    let e1 = c.in_ok-check_gap.ensures in
    let e2 = c.in_ok-check_gap-2.ensures in
    grind (arith, gaps, e1, e2)
