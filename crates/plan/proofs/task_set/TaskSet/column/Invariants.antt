use Rattle.std.proofs.Common.{◌≡◌, length, take}
use Rattle.std.specs.List.{AllZip}
use Rattle.plan.proofs.task_set.TaskSet.column.Given as goal

abbrev pub invariant-loop-task : goal.invariant-loop-task
invariant-loop-task g l =
    (length l.column.items ≡ l.task-index) × AllZip (λ t x. g.F.Fn.post l.number (t, tt) x) (take l.task-index l.task-items) l.column.items
