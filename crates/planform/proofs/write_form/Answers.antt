use Rattle.std.proofs.Common.{◌≡◌, ◌≤◌, ℕ, List, [], ◌++◌, length, take, sym, ap, ◌∙◌, arith, rules, Result, Ok, Err}
use Rattle.std.proofs.lemmas.List.{length-take-le, take_at}
use Rattle.std.specs.Prelude.{IfOk}
use Rattle.plan.specs.declared.errors.WriteError.{WriteError}
use Rattle.plan.specs.declared.errors.WriteError.TheVariants.{SpaceLength}
use Rattle.plan.specs.Canonical.{canonical_of}
use Rattle.plan.specs.Promises.{Written, Writes, max_form, write_answer}
use Rattle.plan.proofs.Writing.{exact-space}
use Rattle.planform.proofs.write_form.Goals as goal

-- the second call, with a space of the size that the first one told
second : {s o o' : List ℕ} {asked : ℕ} (r : Result ℕ WriteError) (b rest : List ℕ) → max_form ≤ length b
    → Writes s [] o (write_answer (Err (SpaceLength asked))) → Writes s (take asked b) o' (write_answer r)
    → IfOk r (λ size. take size (o' ++ rest) ≡ canonical_of s)
second (Err e) b rest h told w = tt
second {asked = asked} (Ok size) b rest h told w =
    let lent = length-take-le asked b (omega (arith, told.most)) ∙ ap (λ (x : Written). x.size) told.answer in
    rw (exact-space w lent).1 (take_at _ rest _ (sym (ap (λ (x : Written). x.size) w.answer)))

pub returns-in-Err-SpaceLength-clause-form : goal.returns-in-Err-SpaceLength-clause-form
returns-in-Err-SpaceLength-clause-form c =
    second _ _ _ (search rules)
    (rw (c.in-Err-SpaceLength.is, c.in-Err-SpaceLength.field-0-is) at c.write_plan.ensures)
    c.write_plan-in-Err-SpaceLength.ensures
