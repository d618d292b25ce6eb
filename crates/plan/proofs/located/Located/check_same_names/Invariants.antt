use Rattle.std.proofs.Common.{take}
use Rattle.plan.proofs.NameWords.{Differing}
use Rattle.plan.proofs.located.Located.check_same_names.Given as goal

abbrev pub invariant-loop-i : goal.invariant-loop-i
invariant-loop-i l = Differing l.self.file.now (take l.i l.names) l.i
