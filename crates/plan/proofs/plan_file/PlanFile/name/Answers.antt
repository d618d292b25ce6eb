use Rattle.std.proofs.Common.{◌<◌, arith}
use Rattle.plan.specs.Layout.{task_count}
use Rattle.plan.proofs.Accepted.{a-name}
use Rattle.plan.proofs.Loading.{loaded-count}
use Rattle.plan.proofs.plan_file.PlanFile.name.Goals as goal

pub name_field-field-requires : goal.name_field-field-requires
name_field-field-requires c =
    let file = c.args.self.now in
    omega (arith, c.requires, loaded-count file.loads, file.located.placed.tasks)

pub returns : goal.returns
returns c =
    let file = c.args.self.now in
    let s = file.located.file.now in
    let inside : c.args.i < task_count s = omega (arith, c.requires, loaded-count file.loads) in
    let field = c.name_field-field in
    a-name s file.loads.accepts c.args.i inside file.located.file.ref_ptr field.result.ref_ptr field.result.now
    c.name_length.result field.ensures.bytes field.ensures.place c.name_length.ensures.is
