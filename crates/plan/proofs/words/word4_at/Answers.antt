use Rattle.std.proofs.Common.{arith}
use Rattle.plan.proofs.Bytes.{word-four}
use Rattle.plan.proofs.words.word4_at.Goals as goal

pub returns : goal.returns
returns c = omega (arith, word-four)
