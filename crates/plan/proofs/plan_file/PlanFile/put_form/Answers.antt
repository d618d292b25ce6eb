use Rattle.std.proofs.Common.{refl, ◌∙◌}
use Rattle.plan.proofs.Writing.{names-fit, writes_nothing, writes-form}
use Rattle.plan.proofs.plan_file.PlanFile.put_form.Goals as goal

pub returns-then-out-size : goal.returns-then-out-size
returns-then-out-size c =
    let file = c.args.self.now in
    let ts = c.as_slice-tasks.ensures.value in
    writes_nothing file.located.file.now file.loads.accepts (ts ∙ file.loads.tasks) c.version_for-version.ensures refl
    c.rows_size-names_at.ensures.0 c.args.out.now c.if-out-size.true

pub put_names-requires : goal.put_names-requires
put_names-requires c =
    let file = c.args.self.now in
    let ts = c.as_slice-tasks.ensures.value in
    rw (← ts) (names-fit file.located.file.now file.loads.accepts (ts ∙ file.loads.tasks) c.version_for-version.ensures refl
    c.rows_size-names_at.ensures.0 c.args.out.now c.if-out-size.false c.put_header.ensures c.put_rows.ensures)

pub returns : goal.returns
returns c =
    let file = c.args.self.now in
    let ts = c.as_slice-tasks.ensures.value in
    writes-form file.located.file.now file.loads.accepts (ts ∙ file.loads.tasks) c.version_for-version.ensures refl
    c.rows_size-names_at.ensures.0 c.args.out.now c.if-out-size.false c.put_header.ensures c.put_rows.ensures
    c.put_names.ensures
