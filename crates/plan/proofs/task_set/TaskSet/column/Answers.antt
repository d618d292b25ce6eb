use Rattle.std.proofs.lemmas.Grind.{common_steps}
use native.Mathlib.Omega.{arith}
use Rattle.plan.proofs.Columns.{zip-push}
use Rattle.plan.proofs.task_set.TaskSet.column.Goals as goal

pub loop-task-preserved : goal.loop-task-preserved
loop-task-preserved g c = grind (arith, common_steps, zip-push)
