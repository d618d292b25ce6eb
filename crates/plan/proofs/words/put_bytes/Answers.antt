use Rattle.std.proofs.Common.{◌+◌, ◌-◌, length, arith}
use Rattle.plan.proofs.Lists.{written-over}
use Rattle.plan.proofs.words.put_bytes.Goals as goal

pub returns : goal.returns
returns c =
    let at = c.args.at in
    let bytes = c.args.bytes.now in
    written-over c.args.out.now _ bytes at (at + length bytes - at) c.requires (omega arith)
    c.copy_from_slice.ensures.after
