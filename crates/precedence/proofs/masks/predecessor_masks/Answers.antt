use Rattle.std.proofs.Common.{◌≡◌, arith}
use Rattle.plan.specs.Tasks.{max_tasks}
use Rattle.precedence.proofs.Closure.{closed-chains}
use Rattle.precedence.proofs.masks.predecessor_masks.Goals as goal

pub returns : goal.returns
returns c =
    let last : c.loop-task.task ≡ max_tasks = omega arith in
    let named = c.named_masks-masks in
    rw (c.loop-task.invariant, last) (closed-chains c.args.pairs.now c.requires named.result named.ensures)
