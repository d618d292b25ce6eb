use Rattle.std.proofs.lemmas.Result.{err_from_is_err_and}
use Rattle.plan.proofs.Writing.{write_refused}
use Rattle.plan.proofs.writer.write_plan.Goals as goal

pub returns-in_err-load_plan : goal.returns-in_err-load_plan
returns-in_err-load_plan c =
    let p = err_from_is_err_and c.from_residual.result c.from_residual.ensures.1 in
    rw (p.1, p.2) (write_refused c.args.file.now c.args.out.now _ c.in_err-load_plan.ensures.refuses)
