use Rattle.std.proofs.Common.{◌+◌, ◌*◌, get_or, ap, ◌∙◌, arith}
use Rattle.std.proofs.lemmas.List.Edits.{sets}
use Rattle.plan.specs.Words.{bytes_of}
use Rattle.plan.proofs.Joined.{stored_more, stored-all}
use Rattle.plan.proofs.Bytes.{four-bytes, bytes-length, words-length, words-from}
use Rattle.plan.proofs.words.put_words.Goals as goal

pub loop-i-preserved : goal.loop-i-preserved
loop-i-preserved c =
    let l = c.loop-i in
    let xs = c.args.numbers.now in
    let x = get_or xs l.i 0 in
    stored_more l.invariant (bytes_of 4 x) _ (4 * (l.i + 1)) (words-from xs l.i c.loop-i-test.true)
    (omega (arith, bytes-length 4 x))
    (c.put_bytes.ensures ∙ ap (sets l.out (c.args.at + 4 * l.i)) (c.to_le_bytes.ensures ∙ four-bytes x))

pub returns : goal.returns
returns c = stored-all c.loop-i.invariant (omega (arith, words-length c.args.numbers.now))
