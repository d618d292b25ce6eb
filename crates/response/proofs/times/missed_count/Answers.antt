use Rattle.std.proofs.Common.{rules, tests, pos, int_lt, ◌∙◌}
use Rattle.std.proofs.lemmas.Iterator.{YieldsList-from_slice}
use Rattle.std.proofs.lemmas.Iterator.Consumers.{count_from_yields_List, YieldsList-from_filter}
use Rattle.response.proofs.Answers.{count-missed}
use Rattle.response.proofs.times.missed_count.Goals as goal

pub returns : goal.returns
returns c =
    let ss = c.args.slacks.now in
    let count = count_from_yields_List c.filter.result c.count.result c.count.ensures.ran
    (YieldsList-from_filter _ (λ s. int_lt s (pos 0)) (YieldsList-from_slice ss (cc)) c.filter.ensures.closure
    (λ x r q k. search (rules, tests))) in
    count ∙ count-missed ss
