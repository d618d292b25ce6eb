use Rattle.std.proofs.Common.{arith}
use Rattle.plan.proofs.Bytes.{word_two}
use Rattle.plan.proofs.words.word2_at.Goals as goal

pub returns : goal.returns
returns c = omega (arith, word_two)
