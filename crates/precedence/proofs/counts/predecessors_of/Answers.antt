use Rattle.std.proofs.Common.{rules, arith}
use Rattle.precedence.proofs.Answering.{answered}
use Rattle.precedence.proofs.counts.predecessors_of.Goals as goal

pub returns-clause-precedes : goal.returns-clause-precedes
returns-clause-precedes c =
    let list = c.args.pairs.now in
    let pairs = c.in_ok-pairs in
    let masks = c.predecessor_masks in
    let first = c.first_misordered in
    answered list masks.result first.result
    (search rules)
    (search (rules, arith))
    (search (rules, arith))
    (search rules)
    (search rules)
    (search rules)
    (search rules)
