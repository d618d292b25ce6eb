use Rattle.std.proofs.Common.{◌≡◌, length, sym, rules}
use Rattle.std.proofs.Math.Seq.{take-append_seam}
use Rattle.std.specs.List.{refill}
use Rattle.plan.specs.Tasks.{period_maxs}
use Rattle.plan.specs.Promises.{plan_tasks}
use Rattle.plan.proofs.Columns.{column-is}
use Rattle.boundary.proofs.Lowered.{lowers-node, lowering-node-is}
use Rattle.boundary.proofs.lowering.lowering_of.Goals as goal

pub lower_all-cost-requires-clause-lowers : goal.lower_all-cost-requires-clause-lowers
lower_all-cost-requires-clause-lowers c =
    let longest : c.column-periods.result.items ≡ period_maxs (plan_tasks c.args.plan.now) =
    column-is (λ t. t.period_max) (λ t x h. search rules) _ _ c.column-periods.ensures in
    rw c.deref.ensures.0 (rw (c.deref_mut.ensures.value, longest) (lowers-node c.args.plan.now.valid c.requires.0), c.requires.1)

pub returns : goal.returns
returns c =
    let longest : c.column-periods.result.items ≡ period_maxs (plan_tasks c.args.plan.now) =
    column-is (λ t. t.period_max) (λ t x h. search rules) _ _ c.column-periods.ensures in
    let before = c.column-periods.result.items in
    let long : length before ≡ length c.lower_all-cost.new.x = rw (← c.deref_mut.ensures.value) (sym c.lower_all-cost.auto.x) in
    let kept : refill (length before) before c.lower_all-cost.new.x ≡ c.lower_all-cost.new.x = rw long (take-append_seam _ _) in
    rw (kept, ← lowering-node-is _ _) (rw (c.deref.ensures.0, c.deref_mut.ensures.value, longest) at c.lower_all-cost.ensures)
