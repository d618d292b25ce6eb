use Rattle.std.proofs.Common.{arith, refl, ◌∙◌}
use Rattle.optimizer.proofs.Concluding.{call-space, call-work, call-passes}
use Rattle.optimizer.proofs.call.check_spaces.Goals as goal

pub returns-then-periods-n : goal.returns-then-periods-n
returns-then-periods-n c = call-space _ _ _ _ refl (λ h. omega (arith, h, c.len-n.ensures.value))

pub returns-then-work-n : goal.returns-then-work-n
returns-then-work-n c = call-work _ _ _ _ refl (c.if-periods-n.false ∙ c.len-n.ensures.value) (omega arith)

pub returns : goal.returns
returns c = call-passes _ _ _ _ refl (c.if-periods-n.false ∙ c.len-n.ensures.value) (omega arith)
