use Rattle.std.proofs.Common.{◌≡◌, true, false, length, arith, rules, refl}
use Rattle.plan.specs.TaskSets.{tasks_in}
use Rattle.plan.specs.Tasks.{between}
use Rattle.plan.proofs.Tests.{between_le}
use Rattle.plan.proofs.Accepted.{no_name}
use Rattle.plan.proofs.Loading.{loaded-count}
use Rattle.plan.proofs.reader.task_name.Goals as goal

pub returns-then-not-contains : goal.returns-then-not-contains
returns-then-not-contains c =
    let s = c.args.file.now in
    let loads = c.in-Ok.ensures.loads in
    let n = loaded-count loads in
    let r : between 1 c.args.task (length (tasks_in c.in-Ok.loaded.plan.tasks)) ≡ false = search rules in
    no_name c.args.file.ref_ptr s c.args.task _ _ (rw (loads.accepts, ← n) r) refl (omega arith) refl

pub name-requires : goal.name-requires
name-requires c =
    let s = c.args.file.now in
    let loads = c.in-Ok.ensures.loads in
    let n = loaded-count loads in
    let r : between 1 c.args.task (length (tasks_in c.in-Ok.loaded.plan.tasks)) ≡ true = search rules in
    let inside = between_le 1 c.args.task (length (tasks_in c.in-Ok.loaded.plan.tasks)) r in
    omega arith
