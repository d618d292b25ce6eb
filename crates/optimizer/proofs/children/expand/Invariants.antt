use Rattle.plan.specs.Promises.{plan_tasks}
use Rattle.optimizer.proofs.Branch.{Grown}
use Rattle.optimizer.proofs.children.expand.Given as goal

abbrev pub invariant-loop-i : goal.invariant-loop-i
invariant-loop-i l = Grown (plan_tasks l.plan) l.fn.nodes l.node l.mua l.nodes l.i
