use Rattle.std.proofs.Common.{◌*◌}
use Rattle.plan.specs.Words.{words_of}
use Rattle.plan.proofs.Joined.{Stored}
use Rattle.plan.proofs.words.put_words.Given as goal

abbrev pub invariant-loop-i : goal.invariant-loop-i
invariant-loop-i l = Stored (words_of l.numbers) l.at l.initial.out l.out (4 * l.i)
