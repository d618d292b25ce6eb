use Rattle.precedence.specs.Pairs.{pairs_of}
use Rattle.precedence.proofs.Reading.{FirstRead}
use Rattle.precedence.proofs.pairs.read_pairs.Given as goal

abbrev pub invariant-loop-predecessor : goal.invariant-loop-predecessor
invariant-loop-predecessor l = FirstRead l.tasks (pairs_of l.list) l.predecessor-index l.pairs.items
