use Rattle.std.proofs.Common.{arith}
use Rattle.plan.proofs.Fields.{field-length}
use Rattle.plan.proofs.located.Located.name_words.Goals as goal

pub word8_at-requires-2 : goal.word8_at-requires-2
word8_at-requires-2 c =
    let w = c.args.self.now.placed in
    rw c.name_field-field.ensures.bytes
    (omega (arith, field-length c.args.self.now.file.now w.names_to c.args.i (omega (arith, c.requires, w.tasks))))
