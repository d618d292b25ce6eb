use Rattle.std.proofs.Common.{arith}
use Rattle.plan.proofs.Bytes.{word-eight}
use Rattle.plan.proofs.words.word8_at.Goals as goal

pub returns : goal.returns
returns c = omega (arith, word-eight)
