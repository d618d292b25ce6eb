use Rattle.std.proofs.Common.{◌*◌}
use Rattle.plan.specs.Layout.{name_width}
use Rattle.plan.specs.Files.{names_of}
use Rattle.plan.specs.Canonical.{names_bytes}
use Rattle.plan.proofs.Joined.{Stored}
use Rattle.plan.proofs.plan_file.PlanFile.put_names.Given as goal

abbrev pub invariant-loop-i : goal.invariant-loop-i
invariant-loop-i l = Stored (names_bytes (names_of l.self.located.file.now)) l.at l.initial.out l.out (name_width * l.i)
