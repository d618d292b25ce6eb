use Rattle.std.proofs.Common.{◌∙◌, ap, map}
use Rattle.precedence.specs.Inner.{pair_of}
use Rattle.precedence.proofs.Reading.{chunks-pairs}
use Rattle.precedence.proofs.pairs.split_list.Goals as goal

pub returns-clause-splits : goal.returns-clause-splits
returns-clause-splits c = ap (map pair_of) c.as_chunks.ensures.front ∙ chunks-pairs c.args.list.now
