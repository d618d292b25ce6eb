use Rattle.std.proofs.Common.{◌<◌, List, length, ap, arith}
use Rattle.plan.specs.declared.tasks.Task.{Task}
use Rattle.plan.specs.Tasks.{task_at}
use Rattle.optimizer.proofs.Branch.{grown-all, grown-end, grown-dropped, grown-full, grown-more}
use Rattle.optimizer.proofs.children.expand.Goals as goal
use Rattle.optimizer.proofs.children.expand.Goals.{then-mua-i+then-not-marks-i+else-nodes, else-mua-i, else-mua-i-via-then-mua-i+else-not-marks-i, else-mua-i-via-else-mua-i}

pub returns-then-nodes-clause-lists : goal.returns-then-nodes-clause-lists
returns-then-nodes-clause-lists c =
    let i = c.loop-i.i in
    let e = c.deref-task-items.ensures.0 in
    let h : i < length c.args.node.now = omega (arith, ap length e, c.requires.1) in
    let m = ap (λ (ts : List Task). (task_at ts i).period_max) e in
    grown-full c.loop-i.invariant h m c.dropped-marks.ensures c.if-mua-i.true c.if-not-marks-i.true c.if-nodes.true

pub loop-i-preserved : goal.loop-i-preserved
loop-i-preserved c =
    let i = c.loop-i.i in
    let e = c.deref-task-items.ensures.0 in
    let h : i < length c.args.node.now = omega (arith, ap length e, c.requires.1) in
    let m = ap (λ (ts : List Task). (task_at ts i).period_max) e in
    let g = c.loop-i.invariant in
    let d = c.dropped-marks.ensures in
    elim c.if-mua-i.branch [
      | then-mua-i+then-not-marks-i+else-nodes w ↦ rw w.nodes-is
          (grown-more g h m d w.if-mua-i.true w.if-not-marks-i.true w.append_child.ensures.same w.append_child.ensures.listed)
      | else-mua-i w ↦ rw w.nodes-is (elim w.else-mua-i.branch [
        | else-mua-i-via-then-mua-i+else-not-marks-i v ↦ grown-dropped g h m d v.if-mua-i.true v.if-not-marks-i.false
        | else-mua-i-via-else-mua-i v ↦ grown-end g h m v.if-mua-i.false
      ])
    ]

pub returns-clause-lists : goal.returns-clause-lists
returns-clause-lists c = grown-all c.loop-i.invariant (omega (arith, ap length c.deref-task-items.ensures.0, c.requires.1))
