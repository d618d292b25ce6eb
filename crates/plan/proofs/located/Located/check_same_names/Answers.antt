use Rattle.std.proofs.Common.{◌<◌, length, arith, sym, ◌∙◌}
use Rattle.std.proofs.lemmas.List.{take_more_set}
use Rattle.plan.proofs.NameWords.{all-differ, name-repeated, name-differs}
use Rattle.plan.proofs.located.Located.check_same_names.Goals as goal

pub returns-then-is_among : goal.returns-then-is_among
returns-then-is_among c =
    let l = c.args.self.now in
    let name = c.name_words-name in
    name-repeated l.file.now c.loop-i.invariant l.placed.names_to l.bytes (omega (arith, l.placed.tasks)) name.result
    name.ensures (sym c.if-is_among.true ∙ c.is_among.ensures)

pub loop-i-preserved : goal.loop-i-preserved
loop-i-preserved c =
    let l = c.args.self.now in
    let name = c.name_words-name in
    let room : c.loop-i.i < length c.loop-i.names = omega (arith, l.placed.few, l.placed.tasks) in
    rw (take_more_set c.loop-i.names c.loop-i.i name.result room)
    (name-differs l.file.now c.loop-i.invariant l.placed.names_to l.bytes (omega (arith, l.placed.tasks)) name.result
    name.ensures (sym c.if-is_among.false ∙ c.is_among.ensures))

pub returns : goal.returns
returns c = all-differ c.args.self.now.file.now c.loop-i.invariant (omega (arith, c.args.self.now.placed.tasks))
