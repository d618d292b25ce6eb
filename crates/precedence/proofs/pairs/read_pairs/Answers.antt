use Rattle.std.proofs.Common.{sym, ◌∙◌, arith}
use Rattle.precedence.proofs.Reading.{chunks-long, chunk-pair, one-more-read, found-outside, all-read}
use Rattle.precedence.proofs.pairs.read_pairs.Goals as goal

pub returns-then-is_outside-clause-refuses : goal.returns-then-is_outside-clause-refuses
returns-then-is_outside-clause-refuses c =
    let e = c.in_ok-items.ensures in
    let chunks = c.in_ok-items.items.now in
    let long = chunks-long chunks e.splits in
    let pair = chunk-pair chunks e.splits c.loop-predecessor.predecessor-index in
    rw (← e.refuses, c.len.ensures.value)
    (found-outside c.loop-predecessor.invariant (omega (arith, long)) pair (omega (arith, long))
    (sym c.is_outside.ensures ∙ c.if-is_outside.true))

pub loop-predecessor-preserved : goal.loop-predecessor-preserved
loop-predecessor-preserved c =
    let e = c.in_ok-items.ensures in
    let chunks = c.in_ok-items.items.now in
    let long = chunks-long chunks e.splits in
    let pair = chunk-pair chunks e.splits c.loop-predecessor.predecessor-index in
    rw c.push.ensures.items
    (one-more-read c.loop-predecessor.invariant (omega (arith, long)) pair (omega (arith, long))
    (sym c.is_outside.ensures ∙ c.if-is_outside.false))

pub returns-clause-refuses : goal.returns-clause-refuses
returns-clause-refuses c =
    let e = c.in_ok-items.ensures in
    let long = chunks-long c.in_ok-items.items.now e.splits in
    rw (← e.refuses) (all-read c.loop-predecessor.invariant (omega (arith, long)) (omega (arith, long)))
