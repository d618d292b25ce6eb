-- The lines of the tasks.
use mathlib.Core.Path.{◌≡◌, refl, ◌∙◌}
use mathlib.Core.Logic.{inl, inr}
use mathlib.Core.List.{List, [], ◌∷◌, ◌++◌}
use Prim.Native.Nat.{ℕ, zero, suc, ◌+◌, ◌-◌, ◌≤◌}
use native.Mathlib.Omega.{arith}
use native.Mathlib.Nat.{le_trans}
use native.Mathlib.Numerals.{add-one}
use lib.Dec.{eqb}
use lib.ListN.{length, get_or, length-take}
use Rattle.std.specs.Prelude.{unwrap_or}
use Rattle.plan.specs.declared.record.Plan.{Plan}
use Rattle.plan.specs.Layout.{name_width}
use Rattle.plan.specs.Names.{name_field, without_zeros}
use Rattle.plan.specs.Files.{is_named, name_of}
use Rattle.plan.specs.Promises.{plan_tasks, Loads, Names}
use Rattle.plan.proofs.Tests.{bool}
use Rattle.response.specs.Analysis.{response_time}
use Rattle.response.specs.Inner.{some_time}
use Rattle.listing.specs.Text.{line, decimal, task_lines}

without_zeros-le : (bs : List ℕ) → length (without_zeros bs) ≤ length bs
without_zeros-le [] = omega arith
without_zeros-le (b ∷ bs) = elim (bool (eqb b 0)) [
  | inl e ↦ rw (e, without_zeros) (omega arith)
  | inr e ↦ rw (e, without_zeros) (omega (arith, without_zeros-le bs))
]

pub name-le : {p : ℕ × ℕ} {s : List ℕ} {task : ℕ} {p' : ℕ × ℕ} {name : List ℕ} → Names p s task p' name
    → length name ≤ name_width
name-le {s = s} {task} n = rw n.bytes (elim (bool (is_named s task)) [
  | inl e ↦ rw e (le_trans (without_zeros-le (name_field s (task - 1))) (simp length-take (omega arith)))
  | inr e ↦ rw e (omega arith)
])

time-or-zero : (t : ℕ) → unwrap_or (some_time t) 0 ≡ t
time-or-zero zero = refl
time-or-zero (suc t) = refl

-- the line of a task of a file's plan, at the time that was written
pub line-more : {s : List ℕ} {plan : Plan} → Loads s plan → (xs : List ℕ) (i : ℕ) {name : List ℕ} {time : ℕ}
    → name ≡ name_of s (i + 1) → time ≡ unwrap_or (some_time (response_time (plan_tasks plan) xs i)) 0
    → task_lines s xs i ++ line (name ∷ decimal (get_or xs i 0) ∷ decimal time ∷ []) ≡ task_lines s xs (i + 1)
line-more l xs i n t = rw (add-one, n, t ∙ time-or-zero _, ← l.tasks) refl
