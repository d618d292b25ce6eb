use Rattle.std.proofs.Common.{◌+◌, ◌≤◌, sym, refl, ◌∙◌, arith}
use Rattle.plan.specs.Tasks.{task_at}
use Rattle.response.proofs.Found.{found-none, found-some}
use Rattle.boundary.proofs.OnePeriod.{alike-is}
use Rattle.boundary.proofs.Missing.{seeks-probes, probing-start, probing-end, probing-responds}
use Rattle.boundary.proofs.Missing.{probing-climbs, probing-period, probing-small, probing-miss, probing-meet}
use Rattle.boundary.proofs.misses.last_miss.Goals as goal
use Rattle.boundary.proofs.misses.last_miss.Goals.{in-None, in-Some}

pub loop-last-init : goal.loop-last-init
loop-last-init c = probing-start (seeks-probes c.requires c.last_end-end.ensures) c.requires.begins

pub busy_from-requires : goal.busy_from-requires
busy_from-requires c = probing-climbs c.loop-last.invariant c.probe-period.ensures

pub overflow_add-begin : goal.overflow_add-begin
overflow_add-begin c =
    let found = found-some _ (sym c.busy_from.ensures ∙ c.in-Some.is) in
    let small = probing-small c.loop-last.invariant c.probe-period.ensures found.0 found.1 in
    let task = c.requires.range.limits.valid c.args.i (omega (arith, c.requires.range.inside, c.requires.range.limits.sized)) in
    omega (arith, small, task.wcet_most)

pub overflow_add-window : goal.overflow_add-window
overflow_add-window c =
    let found = found-some _ (sym c.busy_from.ensures ∙ c.in-Some.is) in
    let small = probing-small c.loop-last.invariant c.probe-period.ensures found.0 found.1 in
    let task = c.requires.range.limits.valid c.args.i (omega (arith, c.requires.range.inside, c.requires.range.limits.sized)) in
    omega (arith, small, task.jitter_most)

pub loop-last-preserved : goal.loop-last-preserved
loop-last-preserved c =
    let g = c.loop-last.invariant in
    let p = c.probe-period.ensures in
    elim c.match-busy_from.branch [
      | in-None w ↦ rw (w.last-is, w.high-is, w.busy-is, w.begin-is)
          (probing-miss g p refl (found-none _ (sym c.busy_from.ensures ∙ w.in-None.is)))
      | in-Some w ↦
          let found = found-some _ (sym c.busy_from.ensures ∙ w.in-Some.is) in
          let window = w.in-Some.found + (task_at c.args.tasks.now c.args.i).jitter in
          let some : 1 ≤ window = omega (arith, found.1) in
          let found-high = rw w.div_ceil.ensures at w.div_ceil-high.ensures in
          let high = w.high-is ∙ found-high ∙ alike-is window _ some (probing-period g p).0 in
          rw (w.last-is, w.busy-is, w.begin-is, high) (probing-meet g p found.0 found.1)
    ]

pub returns-clause-is : goal.returns-clause-is
returns-clause-is c = probing-end c.loop-last.invariant (omega arith)

pub returns-clause-responds : goal.returns-clause-responds
returns-clause-responds c = probing-responds c.loop-last.invariant (omega arith)
