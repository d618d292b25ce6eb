-- What is true of an accepted file: its areas, its tasks within their limits, its names.
use mathlib.Core.Path.{◌≡◌, sym, ap, ◌∙◌}
use mathlib.Core.Bool.{true, false, not, true≢false}
use mathlib.Core.Logic.{inl, inr}
use mathlib.Core.List.{List, [], ◌∷◌}
use Prim.Native.Nat.{ℕ, suc, ◌+◌, ◌-◌, ◌≤◌, ◌<◌}
use native.Mathlib.Omega.{arith}
use lib.ListN.{length, take}
use lib.Seq.{length-take-le}
use borrow.Author.Tests.{eqb-true, not-false}
use Rattle.plan.specs.Lists.{tabulate}
use Rattle.plan.specs.Faults.{none, fault_if, first_fault}
use Rattle.plan.specs.Tasks.{max_tasks, Valid, no_task, AllValid}
use Rattle.plan.specs.Layout.{task_count}
use Rattle.plan.specs.Names.{name_start, name_field, name_ok}
use Rattle.plan.specs.Files.{task_of, row_fault, task_fault, layout_fault, gap_fault, tasks_fault, same_name_fault, file_fault}
use Rattle.plan.specs.Files.{repeat_fault, accepted, tasks_of, is_named}
use Rattle.plan.specs.Inner.{areas_of, AreasOf, IsAt, name_length}
use Rattle.plan.specs.Promises.{Names}
use Rattle.plan.proofs.Tests.{bool, le-between}
use Rattle.plan.proofs.Lists.{tabulate-length, tabulate-at}
use Rattle.plan.proofs.Rules.{or-next, or-first, or-second, if-passed, run-passed}
use Rattle.plan.proofs.Fields.{name-is, name_length-le, name-some}
use Rattle.plan.proofs.Header.{areas_of_lem}
use Rattle.plan.proofs.Valid.{row-valid}

-- a file that passes all rules, and the rules of one that is accepted
pub all_pass :
    (s : List ℕ) → (layout_fault s).number ≡ 0 → (gap_fault s).number ≡ 0 → (tasks_fault s).number ≡ 0 → (same_name_fault s).number ≡ 0
    → none ≡ file_fault s
unfolding file_fault
all_pass s l g t n =
    sym (or-next (layout_fault s) _ l ∙ or-next (gap_fault s) _ g ∙ or-next (tasks_fault s) _ t ∙ or-next (same_name_fault s) none n)

module _ (s : List ℕ) (e : accepted s ≡ true) where
  no-fault : (file_fault s).number ≡ 0
  no-fault = eqb-true (file_fault s).number 0 e

  pub accepted-areas : AreasOf s (areas_of s)
  unfolding file_fault
  accepted-areas = areas_of_lem s (or-first (layout_fault s) _ no-fault)

  after-layout : (first_fault (gap_fault s ∷ tasks_fault s ∷ same_name_fault s ∷ [])).number ≡ 0
  unfolding file_fault
  after-layout = or-second (layout_fault s) (first_fault (gap_fault s ∷ tasks_fault s ∷ same_name_fault s ∷ [])) no-fault

  after-gap : (first_fault (tasks_fault s ∷ same_name_fault s ∷ [])).number ≡ 0
  after-gap = or-second (gap_fault s) (first_fault (tasks_fault s ∷ same_name_fault s ∷ [])) after-layout

  tasks-pass : (tasks_fault s).number ≡ 0
  tasks-pass = or-first (tasks_fault s) (first_fault (same_name_fault s ∷ [])) after-gap

  names-pass : (same_name_fault s).number ≡ 0
  names-pass = or-first (same_name_fault s) none (or-second (tasks_fault s) (first_fault (same_name_fault s ∷ [])) after-gap)

  pub accepted-none : file_fault s ≡ none
  unfolding file_fault
  accepted-none = sym (all_pass s (or-first (layout_fault s) _ no-fault) (or-first (gap_fault s) _ after-layout) tasks-pass names-pass)

  pub name-passes : (i : ℕ) → i < task_count s → (repeat_fault s i).number ≡ 0
  name-passes i h = run-passed (repeat_fault s) (task_count s) 0 names-pass i (omega arith) (omega arith)

  pub task-passes : (i : ℕ) → i < task_count s → (task_fault s i).number ≡ 0
  task-passes i h = run-passed (task_fault s) (task_count s) 0 tasks-pass i (omega arith) (omega arith)

  pub accepted-task : (i : ℕ) → i < task_count s → Valid (task_of s i)
  accepted-task i h =
      row-valid (task_of s i) i
      (or-first (row_fault (task_of s i) i) (fault_if (not (name_ok (name_field s i))) 10 (suc i)) (task-passes i h))

  pub accepted-name : (i : ℕ) → i < task_count s → name_ok (name_field s i) ≡ true
  accepted-name i h =
      let bad = not (name_ok (name_field s i)) in
      not-false (name_ok (name_field s i))
      (if-passed bad 9 (suc i) (or-second (row_fault (task_of s i) i) (fault_if bad 10 (suc i)) (task-passes i h)))

  pub accepted-tasks : tasks_of s ≡ tabulate (task_of s) (task_count s) 0
  unfolding tasks_of
  accepted-tasks = rw e

  pub tasks-length : length (tasks_of s) ≡ task_count s
  tasks-length = ap length accepted-tasks ∙ tabulate-length (task_of s) (task_count s) 0

pub refused-tasks : (s : List ℕ) → accepted s ≡ false → tasks_of s ≡ []
unfolding tasks_of
refused-tasks s e = rw e

-- of any file
pub accepted-valid : (s : List ℕ) → AllValid (tasks_of s)
accepted-valid s i h = elim (bool (accepted s)) [
  | inl e ↦ let l : i < task_count s = omega (arith, tasks-length s e) in
      rw (accepted-tasks s e, tabulate-at (task_of s) (task_count s) 0 i no_task l) (accepted-task s e (0 + i) (omega arith))
  | inr e ↦ let z : ⊥ = omega (arith, ap length (refused-tasks s e)) in absurd z
]

pub tasks-few : (s : List ℕ) → length (tasks_of s) ≤ max_tasks
tasks-few s = elim (bool (accepted s)) [
  | inl e ↦ omega (arith, tasks-length s e, (accepted-areas s e).few)
  | inr e ↦ omega (arith, ap length (refused-tasks s e))
]

-- NAME's answer where there is no such task
pub no_name :
    (p : ℕ × ℕ) (s : List ℕ) (task : ℕ) (p' : ℕ × ℕ) (name : List ℕ)
    → is_named s task ≡ false → p'.0 ≡ p.0 → p'.1 ≡ 0 + p.1 → name ≡ [] → Names p s task p' name
no_name p s task p' name e b o n =
    record { block = b; offset = rw e o; bytes = rw e n; not_empty = λ t. absurd (true≢false (sym t ∙ e)) }

-- and where there is: the name bytes, so many, that its field begins with
module _ (s : List ℕ) (accepts : accepted s ≡ true) (i : ℕ) (inside : i < task_count s) where
  is_named_lem : is_named s (i + 1) ≡ true
  is_named_lem = rw accepts (le-between 1 (i + 1) (task_count s) (omega arith) (omega (arith, inside)))

  pub a-name :
      (p p' : ℕ × ℕ) (field : List ℕ) (k : ℕ) → field ≡ name_field s i
      → IsAt p (name_start s i) p' → k ≡ name_length field → Names p s (i + 1) p' (take k field)
  a-name p p' field k f place e =
      let ok : name_ok field ≡ true = rw (← f) at (accepted-name s accepts i inside) in
      let j : i + 1 - 1 ≡ i = omega arith in
      record {
        block = place.block;
        offset = rw (is_named_lem, j) place.offset;
        bytes = rw (is_named_lem, j, ← f, e) (sym (name-is field ok));
        not_empty = λ t. rw (e, length-take-le (name_length field) field (name_length-le field)) (name-some field ok);
      }
