use Rattle.std.proofs.Common.{◌<◌, ◌∙◌, refl, sym, length, get_or, arith}
use Rattle.std.proofs.lemmas.Nat.Bits.{shr_and_one}
use borrow.Author.Tests.{eq-eqb, ne_eqb}
use Rattle.precedence.proofs.Joining.{one-more-joined, all-joined}
use Rattle.precedence.proofs.masks.join_through.Goals as goal
use Rattle.precedence.proofs.masks.join_through.Goals.{then-mask-task-eq1, else-mask-task-eq1}

pub loop-mask-preserved : goal.loop-mask-preserved
loop-mask-preserved c =
    let v = c.loop-mask.invariant in
    let bit = shr_and_one (get_or c.loop-mask.masks c.loop-mask.mask-index 0) c.args.task in
    let inside : c.loop-mask.mask-index < length c.args.masks.now = omega (arith, c.told-masks) in
    elim c.if-mask-task-eq1.branch [
      | then-mask-task-eq1 w ↦
          let set = eq-eqb _ 1 (sym bit ∙ w.if-mask-task-eq1.true) in
          rw w.masks-is (one-more-joined v inside (rw set refl))
      | else-mask-task-eq1 w ↦
          let unset = ne_eqb _ 1 (λ e. w.if-mask-task-eq1.false (bit ∙ e)) in
          rw w.masks-is (one-more-joined v inside (rw unset refl))
    ]

pub returns : goal.returns
returns c = all-joined c.loop-mask.invariant (omega (arith, c.told-masks))
