use Rattle.std.proofs.Common.{◌≡◌, ◌<◌, ◌+◌, ◌-◌, ◌*◌, length, refl, ◌∙◌, arith}
use Rattle.std.specs.List.{copy_within}
use Rattle.optimizer.proofs.Space.{copied_within, nodes-removed}
use Rattle.optimizer.proofs.Scans.{listed_in, stretch_in}
use Rattle.optimizer.proofs.nodes.OpenNodes.remove.Goals as goal

pub returns-clause-removed : goal.returns-clause-removed
returns-clause-removed c =
    let o = c.args.self.now in
    let n = length o.weights.items in
    let from = (o.count - 1) * n in
    let last : o.count - 1 < o.room = omega (arith, o.within) in
    let moved : c.copy_within.new.self ≡ copy_within o.work.now from (from + n) (c.args.k * n) =
    rw (← c.len-n.ensures.value) c.copy_within.ensures.after in
    let e = copied_within o.work.now from (c.args.k * n) n (stretch_in o last) in
    nodes-removed o.count n o.work.now c.args.k c.requires (listed_in o) refl (moved ∙ e)
