use Rattle.std.proofs.Common.{◌<◌, length, take, get_or, ◌∙◌, arith}
use Rattle.std.proofs.lemmas.List.{length-set, take_more, take_all}
use Rattle.std.proofs.lemmas.List.Elements.{All-get_or}
use Rattle.plan.specs.Tasks.{max_tasks}
use Rattle.precedence.specs.declared.pairs.Pair.{Pair}
use Rattle.precedence.specs.Inner.{OfTasks}
use Rattle.precedence.proofs.Naming.{one-more-named}
use Rattle.precedence.proofs.masks.named_masks.Goals as goal

pub loop-pair-preserved : goal.loop-pair-preserved
loop-pair-preserved c =
    let ps = c.args.pairs.now in
    let i = c.loop-pair.pair-index in
    let inside : i < length ps = omega arith in
    let none : Pair = record { predecessor = 0; successor = 0 } in
    let tasks = All-get_or (OfTasks max_tasks) ps i none inside c.requires in
    let v = c.loop-pair.invariant in
    rw (take_more ps i none inside, c.from.ensures)
    (record {
      sized = length-set c.loop-pair.masks _ _ ∙ v.sized;
      named = one-more-named (take i ps) c.loop-pair.masks v.named (get_or ps i none) tasks v.sized;
    })

pub returns : goal.returns
returns c = rw (take_all c.loop-pair.pair-index c.args.pairs.now (omega arith)) at c.loop-pair.invariant.named
