-- What the public calls promise, of any bytes.
use Rattle.std.specs.Prelude.{◌≡◌, true, not, cond, List, ℕ, ◌+◌, ◌-◌, ◌≤◌, ◌<◌, eqb, length, Result, Ok, Err}
use Rattle.plan.specs.declared.faults.Fault.{Fault}
use Rattle.plan.specs.declared.errors.ReadError.{ReadError}
use Rattle.plan.specs.declared.errors.WriteError.{WriteError}
use Rattle.plan.specs.declared.errors.WriteError.TheVariants.{Read as Unread, SpaceLength}
use Rattle.plan.specs.declared.tasks.Task.{Task}
use Rattle.plan.specs.declared.record.Plan.{Plan}
use Rattle.plan.specs.TaskSets.{tasks_in}
use Rattle.plan.specs.Faults.{none, fault_if, passed, or_else}
use Rattle.plan.specs.Errors.{read_error_fault, write_error_fault}
use Rattle.plan.specs.Layout.{header_width, version, rows_at, rows_end_of, names_at, names_end_of}
use Rattle.plan.specs.Names.{name_start}
use Rattle.plan.specs.Files.{file_fault, accepted, tasks_of, names_of, is_named, name_of}
use Rattle.plan.specs.Canonical.{version_for, canonical_of}

-- READ's answer: the refusal, and the count of tasks of an accepted file
pub record Read : Type 0 where
  pub fault : Fault
  pub tasks : ℕ

abbrev pub read_answer : Result ℕ ReadError → Read
read_answer (Ok n) = record { fault = none; tasks = n }
read_answer (Err e) = record { fault = read_error_fault e; tasks = 0 }

-- READ: "the file to n"; "READ's n [is] 0 when refused"
abbrev pub read_of : List ℕ → Read
read_of s = record { fault = file_fault s; tasks = length (tasks_of s) }

-- NAME: the part p' of the bytes s that stand at p, a block and an offset into it
pub record Names (p : ℕ × ℕ) (s : List ℕ) (task : ℕ) (p' : ℕ × ℕ) (name : List ℕ) : Type 0 where
  pub block : p'.0 ≡ p.0
  pub offset : p'.1 ≡ cond (is_named s task) (name_start s (task - 1)) 0 + p.1
  pub bytes : name ≡ name_of s task
  pub not_empty : is_named s task ≡ true → 0 < length name

-- "40: the lent space is not exactly the written length, place 0, after the file's own rules": a space of so many bytes
abbrev pub write_fault : List ℕ → ℕ → Fault
write_fault s room = or_else (file_fault s) (fault_if (not (eqb room (length (canonical_of s)))) 40 0)

-- WRITE's answer: the refusal, and the length of an accepted file's canonical form
pub record Written : Type 0 where
  pub fault : Fault
  pub size : ℕ

abbrev pub size_told : WriteError → ℕ
size_told (Unread e) = 0
size_told (SpaceLength size) = size

abbrev pub write_answer : Result ℕ WriteError → Written
write_answer (Ok size) = record { fault = none; size = size }
write_answer (Err e) = record { fault = write_error_fault e; size = size_told e }

-- the size is the written length, 0 where the file's own rules refuse it
abbrev pub written_of : List ℕ → ℕ → Written
written_of s room = record { fault = write_fault s room; size = length (canonical_of s) }

-- two files "hold the same jobs, names included, in the same order"
abbrev pub SamePlan : List ℕ → List ℕ → Type 0
SamePlan s s' = (tasks_of s ≡ tasks_of s') × (names_of s ≡ names_of s')

-- f is the one form of the plan that the file s holds
pub record IsCanonical (s f : List ℕ) : Type 0 where
  -- "version 1 when every hold and late is 0, else version 2"
  pub version : version f ≡ version_for (tasks_of s)
  -- "rows at 16, names right after, no gaps"
  pub rows : rows_at f ≡ header_width
  pub names : names_at f ≡ rows_end_of f
  pub end : length f ≡ names_end_of f
  pub accepts : accepted f ≡ true
  pub plan : SamePlan s f
  -- "Writing a written form changes no byte."
  pub again : canonical_of f ≡ f
  -- "Two accepted files hold the same jobs, names included, in the same order exactly when their written forms are
  -- equal."
  pub same_form : (s' : List ℕ) → accepted s' ≡ true → SamePlan s s' → canonical_of s' ≡ f
  pub same_plan : (s' : List ℕ) → accepted s' ≡ true → canonical_of s' ≡ f → SamePlan s s'

-- the longest form: sixteen tasks of version 2, of 44 bytes each
abbrev pub max_form : ℕ
max_form = 720

-- WRITE, with the space o before and o' after
pub record Writes (s o o' : List ℕ) (r : Written) : Type 0 where
  pub answer : r ≡ written_of s (length o)
  pub space : o' ≡ cond (passed r.fault) (canonical_of s) o
  pub most : r.size ≤ max_form
  pub form : accepted s ≡ true → IsCanonical s (canonical_of s)

-- the tasks of a plan record
abbrev pub plan_tasks : Plan → List Task
plan_tasks p = tasks_in p.tasks

-- a plan loaded, for the layers above: the tasks of an accepted file
pub record Loads (s : List ℕ) (p : Plan) : Type 0 where
  pub accepts : accepted s ≡ true
  pub tasks : plan_tasks p ≡ tasks_of s
