use Rattle.std.proofs.Common.{◌+◌, ◌-◌, length, arith}
use Rattle.plan.specs.Layout.{name_width}
use Rattle.plan.proofs.Canonical.{name-put}
use Rattle.plan.proofs.writer.put_name.Goals as goal

pub returns : goal.returns
returns c =
    let at = c.args.at in
    let name = c.args.name.now in
    name-put c.args.out.now name at (at + name_width - (at + length name)) c.requires.0 c.requires.1 (omega arith)
    c.put_bytes.ensures (c.fill.ensures.after (λ y h. h))
