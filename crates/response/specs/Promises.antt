-- What TIMES promises, of any bytes, periods and space.
use Rattle.std.specs.Prelude.{◌≡◌, true, not, cond, List, [], ◌∷◌, ℕ, suc, ◌<◌, eqb, length, get_or, ℤ, pos, Result, Ok, Err, Option, Some, None}
use Rattle.plan.specs.declared.faults.Fault.{Fault}
use Rattle.plan.specs.declared.tasks.Task.{Task}
use Rattle.plan.specs.Faults.{none, fault_if, passed, or_else, first_fault, first_from}
use Rattle.plan.specs.Tasks.{between, task_at}
use Rattle.response.specs.declared.times.Times.{Times}
use Rattle.response.specs.declared.errors.TimesError.{TimesError}
use Rattle.response.specs.Errors.{times_error_fault}
use Rattle.response.specs.Analysis.{slack_list, missed_count, first_missed}
use Rattle.response.specs.Claims.{IsSlack}
use Rattle.response.specs.ExactRelease.{WithoutJitter, exact_slack_list}

-- "21: point not n long (TIMES). Place 0."
abbrev pub period_count_fault : List Task → List ℕ → Fault
period_count_fault ts xs = fault_if (not (eqb (length xs) (length ts))) 21 0

-- "22: space for times or point not n long. Place 0.", of a space of so many numbers
abbrev pub space_fault : List Task → ℕ → Fault
space_fault ts space = fault_if (not (eqb space (length ts))) 22 0

-- "23: a period outside its bounds (TIMES). Place: first such job."
abbrev pub bound_fault : List Task → List ℕ → ℕ → Fault
bound_fault ts xs i =
    fault_if (not (between (task_at ts i).period_min (get_or xs i 0) (task_at ts i).period_max)) 23 (suc i)

abbrev pub bounds_fault : List Task → List ℕ → Fault
bounds_fault ts xs = first_from (bound_fault ts xs) (length ts) 0

-- "Whoever calls, after the file's and in this order"
unfoldable pub periods_fault : List Task → List ℕ → ℕ → Fault
periods_fault ts xs space = first_fault (period_count_fault ts xs ∷ space_fault ts space ∷ bounds_fault ts xs ∷ [])

-- of a file's fault and tasks
abbrev pub times_fault : Fault → List Task → List ℕ → ℕ → Fault
times_fault f ts xs space = or_else f (periods_fault ts xs space)

-- TIMES's answer: the refusal, how many tasks miss their deadlines, and the first of them, counted from 1, or 0
pub record TimesAnswer : Type 0 where
  pub fault : Fault
  pub missed : ℕ
  pub first : ℕ

-- "It .. answers the count of late jobs and the first of them (0 if none)"; "TIMES's two counts are 0 when refused"
abbrev pub refused_times : Fault → TimesAnswer
refused_times f = record { fault = f; missed = 0; first = 0 }

abbrev pub answer_times : List ℤ → TimesAnswer
answer_times ss = record { fault = none; missed = missed_count ss; first = first_missed ss }

-- what a call returns, as that
abbrev pub number_or_none : Option ℕ → ℕ
number_or_none None = 0
number_or_none (Some n) = n

abbrev pub times_answer : Result Times TimesError → TimesAnswer
times_answer (Ok t) = record { fault = none; missed = t.missed; first = number_or_none t.first }
times_answer (Err e) = refused_times (times_error_fault e)

-- TIMES, of a file's fault and tasks: "TIMES shall write slack"; a refusal leaves the space o as it was
pub record Analyses (f : Fault) (ts : List Task) (xs : List ℕ) (o o' : List ℤ) (r : TimesAnswer) : Type 0 where
  pub answer : let g = times_fault f ts xs (length o) in
      r ≡ cond (passed g) (answer_times (slack_list ts xs)) (refused_times g)
  pub slacks : o' ≡ cond (passed (times_fault f ts xs (length o))) (slack_list ts xs) o
  -- demand 2, of each number written
  pub exact : passed (times_fault f ts xs (length o)) ≡ true → (i : ℕ) → i < length ts
      → IsSlack ts xs i (get_or o' i (pos 0))
  -- "Exact release in 01 is now the case of late 0."
  pub exact_release : passed (times_fault f ts xs (length o)) ≡ true → WithoutJitter ts
      → (r ≡ answer_times (exact_slack_list ts xs)) × (o' ≡ exact_slack_list ts xs)
