use Rattle.std.proofs.Common.{◌*◌}
use Rattle.plan.specs.Layout.{header_width, row_size}
use Rattle.plan.specs.Canonical.{rows_bytes}
use Rattle.plan.proofs.Joined.{Stored}
use Rattle.plan.proofs.writer.put_rows.Given as goal

abbrev pub invariant-loop-i : goal.invariant-loop-i
invariant-loop-i l = Stored (rows_bytes l.version l.tasks) header_width l.initial.out l.out (row_size l.version * l.i)
