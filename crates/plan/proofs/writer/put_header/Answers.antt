use Rattle.plan.proofs.Canonical.{header-put}
use Rattle.plan.proofs.writer.put_header.Goals as goal

pub returns : goal.returns
returns c =
    let a = c.args in
    rw (c.put_words.ensures, c.put_bytes-2.ensures, c.put_bytes.ensures)
    (header-put a.out.now a.version a.tasks a.names a.total c.to_le_bytes.ensures c.to_le_bytes-2.ensures)
