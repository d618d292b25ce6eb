-- The file's refusal from its rules in their order, and loaded plans.
use mathlib.Core.Path.{◌≡◌, refl, sym, ap, ◌∙◌}
use mathlib.Core.Bool.{true, false}
use mathlib.Core.List.{List}
use Prim.Native.Nat.{ℕ, ◌≤◌}
use native.Mathlib.Omega.{arith}
use lib.Dec.{eqb}
use lib.ListN.{length}
use borrow.Author.Tests.{ne_eqb}
use Rattle.std.specs.Prelude.{Err}
use Rattle.plan.specs.TaskSets.{tasks_in}
use Rattle.plan.specs.declared.errors.ReadError.{ReadError}
use Rattle.plan.specs.Errors.{read_error_fault}
use Rattle.plan.specs.declared.tasks.Task.{Task}
use Rattle.plan.specs.declared.record.Plan.{Plan}
use Rattle.plan.specs.Faults.{none, or_else}
use Rattle.plan.specs.Tasks.{AllValid}
use Rattle.plan.specs.Layout.{task_count}
use Rattle.plan.specs.Files.{layout_fault, gap_fault, tasks_fault, same_name_fault, file_fault, accepted, tasks_of}
use Rattle.plan.specs.Inner.{Decodes}
use Rattle.plan.specs.Promises.{Loads, read_of, read_answer}
use Rattle.plan.proofs.Accepted.{all_pass, accepted-areas, accepted-tasks, tasks-length, accepted-valid, refused-tasks}
use Rattle.plan.proofs.Numbers.{read-error-numbers}

pub file_rules : (s : List ℕ)
    → file_fault s
    ≡ or_else (layout_fault s) (or_else (gap_fault s) (or_else (tasks_fault s) (or_else (same_name_fault s) none)))
unfolding file_fault
file_rules s = refl

-- a file that broke none of them, whose tasks were read where it was located
module _ (s : List ℕ) {located : List ℕ} {ts : List Task} (same : located ≡ s) (layout : none ≡ layout_fault s)
    (gaps : none ≡ gap_fault located)
    (tasks : none ≡ tasks_fault located) (names : none ≡ same_name_fault located) (d : Decodes located ts) where
  pub no-fault : none ≡ file_fault s
  no-fault =
      all_pass s (ap (λ f. f.number) (sym layout)) (ap (λ f. f.number) (sym (rw same at gaps)))
      (ap (λ f. f.number) (sym (rw same at tasks)))
      (ap (λ f. f.number) (sym (rw same at names)))

  accepts : accepted s ≡ true
  accepts = rw (← no-fault)

  tasks-are : ts ≡ tasks_of s
  tasks-are = (rw same at d) ∙ sym (accepted-tasks s accepts)

  pub some-read : 1 ≤ length ts
  some-read = rw tasks-are (omega (arith, tasks-length s accepts, (accepted-areas s accepts).some))

  pub valid-read : AllValid ts
  valid-read = rw tasks-are (accepted-valid s)

  pub loads-plan : (p : Plan) → tasks_in p.tasks ≡ ts → Loads s p
  loads-plan p e = record { accepts = accepts; tasks = e ∙ tasks-are }

-- a file that broke one, as an error says
module _ (s : List ℕ) (e : ReadError) (refuses : read_error_fault e ≡ file_fault s) where
  pub unaccepted : accepted s ≡ false
  unaccepted =
      let broken : eqb (read_error_fault e).number 0 ≡ false =
      ne_eqb (read_error_fault e).number 0 (λ z. omega (arith, read-error-numbers e)) in
      rw refuses at broken

  pub read_refused : read_answer (Err e) ≡ read_of s
  read_refused = rw (refuses, refused-tasks s unaccepted)

-- how many tasks a loaded plan has
pub loaded-count : {s : List ℕ} {p : Plan} → Loads s p → length (tasks_in p.tasks) ≡ task_count s
loaded-count {s} l = ap length l.tasks ∙ tasks-length s l.accepts
