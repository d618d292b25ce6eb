-- The tasks of a task set.
use Rattle.std.specs.Prelude.{List, take}
use Rattle.plan.specs.declared.tasks.Task.{Task}
use Rattle.plan.specs.declared.task_set.TaskSet.{TaskSet}

abbrev pub tasks_in : TaskSet → List Task
tasks_in s = take s.count s.rows
