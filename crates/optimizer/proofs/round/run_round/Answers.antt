use Rattle.std.proofs.Common.{sym, ◌∙◌}
use Rattle.plan.specs.declared.record.Plan.{Plan}
use Rattle.plan.specs.Promises.{plan_tasks}
use Rattle.boundary.specs.declared.node.Node.{Node}
use Rattle.optimizer.specs.declared.nodes.OpenNodes.{OpenNodes}
use Rattle.optimizer.specs.Inner.{Ready, SameSpace, Taken}
use Rattle.optimizer.proofs.Taking.{Took, node-limits, node-fails, node-expands}
use Rattle.optimizer.proofs.Taking.{round-answered, round-listed, round-full}
use Rattle.optimizer.proofs.round.run_round.Goals as goal
use Rattle.optimizer.proofs.round.run_round.Goals.{then-is_schedulable}
use Rattle.optimizer.proofs.round.run_round.Goals.{else-is_schedulable+then-expand, else-is_schedulable+else-expand}

took : (plan : Plan) {old others : OpenNodes} {x : Node} → Ready (plan_tasks plan) old → SameSpace old others
    → Taken old others x → Took (plan_tasks plan) old others x
took plan r s t = record { valid = plan.valid; few = plan.few; ready = r; space = s; taken = t }

pub invariant_of-assignment : goal.invariant_of-assignment
invariant_of-assignment c =
    let k = took c.args.plan.now c.requires c.take_least-node.ensures.same c.take_least-node.ensures.taken in
    record { limits = rw (c.deref.ensures.0, c.deref-2.ensures.0) (node-limits k) }

pub mua_of-requires : goal.mua_of-requires
mua_of-requires c =
    let k = took c.args.plan.now c.requires c.take_least-node.ensures.same c.take_least-node.ensures.taken in
    rw (c.deref.ensures.0, c.deref-2.ensures.0)
    (node-fails k (rw (c.deref.ensures.0, c.deref-2.ensures.0) at (sym c.is_schedulable.ensures ∙ c.if-is_schedulable.false)))

pub expand-requires : goal.expand-requires
expand-requires c =
    let k = took c.args.plan.now c.requires c.take_least-node.ensures.same c.take_least-node.ensures.taken in
    rw (c.deref-else-is_schedulable-2.ensures.0, c.mua_of.ensures, c.deref-else-is_schedulable.ensures.0)
    (rw (c.deref.ensures.0, c.deref-2.ensures.0)
    (node-expands k (rw (c.deref.ensures.0, c.deref-2.ensures.0) at (sym c.is_schedulable.ensures ∙ c.if-is_schedulable.false))))

pub returns-clause-rounds : goal.returns-clause-rounds
returns-clause-rounds c =
    let k = took c.args.plan.now c.requires c.take_least-node.ensures.same c.take_least-node.ensures.taken in
    elim c.if-is_schedulable.branch [
      | then-is_schedulable w ↦
          rw (w.nodes-is, w.step-is)
          (round-answered k (rw (c.deref.ensures.0, c.deref-2.ensures.0) at (sym c.is_schedulable.ensures ∙ w.if-is_schedulable.true)))
      | else-is_schedulable+then-expand w ↦
          rw (w.nodes-is, w.step-is)
          (round-listed k (rw (c.deref.ensures.0, c.deref-2.ensures.0) at (sym c.is_schedulable.ensures ∙ w.if-is_schedulable.false))
          (rw (
            w.deref-else-is_schedulable-2.ensures.0,
            w.mua_of.ensures,
            w.deref-else-is_schedulable.ensures.0,
            c.deref.ensures.0,
            c.deref-2.ensures.0,
          ) at w.expand.ensures.lists) w.if-expand.true)
      | else-is_schedulable+else-expand w ↦
          rw (w.nodes-is, w.step-is)
          (round-full k (rw (c.deref.ensures.0, c.deref-2.ensures.0) at (sym c.is_schedulable.ensures ∙ w.if-is_schedulable.false))
          (rw (
            w.deref-else-is_schedulable-2.ensures.0,
            w.mua_of.ensures,
            w.deref-else-is_schedulable.ensures.0,
            c.deref.ensures.0,
            c.deref-2.ensures.0,
          ) at w.expand.ensures.lists) w.if-expand.false)
    ]
