use Rattle.std.proofs.Common.{◌≤◌, ◌*◌, sym, ◌∙◌, arith}
use Rattle.plan.specs.Tasks.{max_ticks, max_weight}
use Rattle.response.proofs.Found.{found, found-some}
use Rattle.boundary.proofs.Lowered.{lowering-start, lowering-limits, node-some, lowering-responds, lowering-seeks}
use Rattle.boundary.proofs.Lowered.{step_small, total-small, lowering-on, lowers-past, lowering-end}
use Rattle.boundary.proofs.lowering.lower_all.Goals as goal

pub loop-i-init : goal.loop-i-init
loop-i-init c =
    let t = c.requires.tasks in
    lowering-start t.0 t.1.0 t.1.1 c.requires.lowers.0 c.lowest_start-start.ensures c.requires.lowers.1

pub invariant_of-assignment : goal.invariant_of-assignment
invariant_of-assignment c = record { limits = lowering-limits c.loop-i.invariant }

pub unwrap-own-requires : goal.unwrap-own-requires
unwrap-own-requires c =
    let inside = rw c.deref-least-items.ensures.0 at c.loop-i-test.true in
    rw (c.busy_from.ensures, c.last_end.ensures) (found _ (lowering-responds c.loop-i.invariant inside))

pub overflow_sub-least : goal.overflow_sub-least
overflow_sub-least c =
    let node = c.deref-least-items.ensures.0 in rw node (node-some c.loop-i.invariant (rw node at c.loop-i-test.true))

pub last_miss_from-miss-requires : goal.last_miss_from-miss-requires
last_miss_from-miss-requires c =
    let node = c.deref-least-items.ensures.0 in
    let own = found-some _ (sym (rw c.last_end.ensures at c.busy_from.ensures) ∙ c.unwrap-own.ensures) in
    rw node (lowering-seeks c.loop-i.invariant (rw node at c.loop-i-test.true) own.0)

pub overflow_add-cost : goal.overflow_add-cost
overflow_add-cost c =
    let g = c.loop-i.invariant in
    let node = c.deref-least-items.ensures.0 in
    let own = found-some _ (sym (rw c.last_end.ensures at c.busy_from.ensures) ∙ c.unwrap-own.ensures) in
    let step : c.from.result * c.from-in-loop-i.result ≤ max_weight * max_ticks =
    rw (c.from-in-loop-i.ensures, node)
    (step_small g (rw node at c.loop-i-test.true) own.0 (rw node at c.last_miss_from-miss.ensures.is) c.from.ensures) in
    omega (arith, total-small g)

pub returns-then-limit-cost : goal.returns-then-limit-cost
returns-then-limit-cost c =
    let e = c.last_miss_from-miss.ensures in
    let node = c.deref-least-items.ensures.0 in
    let own = found-some _ (sym (rw c.last_end.ensures at c.busy_from.ensures) ∙ c.unwrap-own.ensures) in
    let longer = rw node at c.from-in-loop-i.ensures in
    let inside = rw node at c.loop-i-test.true in
    let next = lowering-on c.loop-i.invariant inside own.0 (rw node at e.is) e.begins e.moved c.from.ensures longer in
    lowers-past next c.if-limit-cost.true

pub loop-i-preserved : goal.loop-i-preserved
loop-i-preserved c =
    let e = c.last_miss_from-miss.ensures in
    let node = c.deref-least-items.ensures.0 in
    let own = found-some _ (sym (rw c.last_end.ensures at c.busy_from.ensures) ∙ c.unwrap-own.ensures) in
    let longer = rw node at c.from-in-loop-i.ensures in
    let inside = rw node at c.loop-i-test.true in
    lowering-on c.loop-i.invariant inside own.0 (rw node at e.is) e.begins e.moved c.from.ensures longer

pub returns : goal.returns
returns c = lowering-end c.loop-i.invariant (rw c.deref-least-items.ensures.0 at c.loop-i-test.false)
