use Rattle.plan.specs.TaskSets.{tasks_in}
use Rattle.plan.proofs.Decoding.{Decoding}
use Rattle.plan.proofs.located.Located.decode_tasks.Given as goal

abbrev pub invariant-loop-i : goal.invariant-loop-i
invariant-loop-i l = Decoding l.self.file.now (tasks_in l.tasks) l.i
