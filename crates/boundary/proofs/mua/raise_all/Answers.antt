use Rattle.boundary.proofs.Raising.{raising-start, raising-early, raising-raises, raising-met, raising-missed}
use Rattle.boundary.proofs.mua.raise_all.Goals as goal
use Rattle.boundary.proofs.mua.raise_all.Goals.{in-Some, in-None}

pub loop-i-init : goal.loop-i-init
loop-i-init c = raising-start c.requires

pub begin_at-requires-clause-begins : goal.begin_at-requires-clause-begins
begin_at-requires-clause-begins c =
    raising-early c.loop-i.invariant c.in-Some.is c.loop-i-test.true

pub raise-above-requires : goal.raise-above-requires
raise-above-requires c =
    rw c.begin_at.ensures (raising-raises c.loop-i.invariant c.loop-i-test.true c.in-Some.is)

pub loop-i-preserved : goal.loop-i-preserved
loop-i-preserved c =
    let g = c.loop-i.invariant in
    let inside = c.loop-i-test.true in
    elim c.match-above.branch [
      | in-Some w ↦
          let e = w.raise-above.ensures in
          rw (w.u-is, w.above-is) (raising-met g inside w.in-Some.is e.is e.responds)
      | in-None w ↦ rw (w.u-is, w.above-is) (raising-missed g inside w.in-None.is)
    ]
