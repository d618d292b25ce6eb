-- Tasks decoded one by one.
use mathlib.Core.Path.{◌≡◌, sym, ap, ◌∙◌}
use mathlib.Core.Bool.{true, false, not}
use mathlib.Core.List.{List, [], ◌∷◌, ◌++◌}
use Prim.Native.Nat.{ℕ, suc, ◌+◌, ◌-◌, ◌≤◌, ◌<◌}
use native.Mathlib.Omega.{arith}
use native.Mathlib.Numerals.{add-one}
use lib.ListN.{length}
use Rattle.plan.specs.declared.errors.ReadError.{ReadError}
use Rattle.plan.specs.declared.tasks.Task.{Task}
use Rattle.plan.specs.Lists.{tabulate}
use Rattle.plan.specs.Faults.{fault, none, fault_if, first_from}
use Rattle.plan.specs.Errors.{read_error_fault}
use Rattle.plan.specs.Layout.{task_count}
use Rattle.plan.specs.Names.{name_field, name_ok}
use Rattle.plan.specs.Files.{task_of, row_fault, task_fault, tasks_fault}
use Rattle.plan.proofs.Lists.{tabulate-length, tabulate-more}
use Rattle.plan.proofs.Rules.{or-next, run-here, run-next, run-task, run_end}
use Rattle.plan.proofs.Numbers.{read-error-numbers, read_error_first}

-- the first i tasks passed, and they are read
pub record Decoding (s : List ℕ) (ts : List Task) (i : ℕ) : Type 0 where
  pub so_far : tasks_fault s ≡ first_from (task_fault s) (task_count s - i) i
  pub tasks : ts ≡ tabulate (task_of s) i 0

module _ {s : List ℕ} {ts : List Task} {i : ℕ} (d : Decoding s ts i) where
  pub decoded-count : length ts ≡ i
  decoded-count = rw d.tasks (tabulate-length (task_of s) i 0)

  pub all-passed : task_count s ≤ i → none ≡ tasks_fault s
  all-passed l = sym (d.so_far ∙ run_end (task_fault s) (task_count s) i l)

  module _ (l : i < task_count s) where
    pub row-broken : (e : ReadError) → read_error_fault e ≡ row_fault (task_of s i) i
        → read_error_fault e ≡ tasks_fault s
    row-broken e h =
        let here : task_fault s i ≡ read_error_fault e = read_error_first e (row_fault (task_of s i) i) _ h in
        let broken : (task_fault s i).number ≡ 0 → ⊥ =
        λ z. omega (arith, read-error-numbers e, ap (λ f. f.number) here) in
        sym (d.so_far ∙ run-here (task_fault s) (task_count s) i l broken ∙ here)

    module _ (row : none ≡ row_fault (task_of s i) i) where
      name_rule : task_fault s i ≡ fault_if (not (name_ok (name_field s i))) 10 (suc i)
      name_rule = or-next (row_fault (task_of s i) i) _ (ap (λ f. f.number) (sym row))

      pub name-broken : name_ok (name_field s i) ≡ false → fault 10 (i + 1) ≡ tasks_fault s
      name-broken h = sym (d.so_far ∙ run-task (task_fault s) (task_count s) i 9 l (name_rule ∙ rw h))

      pub decoding-next : name_ok (name_field s i) ≡ true → Decoding s (ts ++ (task_of s i ∷ [])) (i + 1)
      decoding-next h =
          let z : 0 + i ≡ i = omega arith in
          let passes : (task_fault s i).number ≡ 0 = ap (λ f. f.number) name_rule ∙ rw h in
          record {
            so_far = d.so_far ∙ run-next (task_fault s) (task_count s) i l passes;
            tasks = rw (d.tasks, add-one) (sym (rw z at (tabulate-more (task_of s) i 0)));
          }
