-- What CHEAPEST promises, of any bytes, budget and spaces.
use Rattle.std.specs.Prelude.{◌≡◌, Bool, true, not, ◌||◌, cond, List, [], ◌∷◌, ℕ, suc, ◌+◌, ◌/◌, eqb, ltb, leb, length, replicate}
use Rattle.plan.specs.declared.faults.Fault.{Fault}
use Rattle.plan.specs.declared.tasks.Task.{Task}
use Rattle.plan.specs.Faults.{fault, fault_if, passed, or_else, first_fault, first_from}
use Rattle.plan.specs.Tasks.{task_at, period_maxs, weights}
use Rattle.plan.specs.Files.{file_fault, tasks_of}
use Rattle.response.specs.Analysis.{own_demand, deadline, schedulable, slack_list, first_missed}
use Rattle.response.specs.Assignments.{cost}
use Rattle.response.specs.ExactRelease.{WithoutJitter, exact_slack_list, exact_schedulable}
use Rattle.response.specs.Promises.{space_fault}
use Rattle.optimizer.specs.declared.conclusion.Answer.{Answer}
use Rattle.optimizer.specs.Rule.{End}
use Rattle.optimizer.specs.Search.{search_by, search}
use Rattle.optimizer.specs.Claims.{Settles, Improves}

-- "24: work space shorter than n. Place 0."
abbrev pub work_fault : List Task → ℕ → Fault
work_fault ts work = fault_if (ltb work (length ts)) 24 0

-- the rules before the search's own, after a file's fault: of its tasks and of spaces of so many numbers
unfoldable pub call_fault : Fault → List Task → ℕ → ℕ → Fault
call_fault f ts space work = first_fault (f ∷ space_fault ts space ∷ work_fault ts work ∷ [])

-- "31 'lone': C above the smaller of hi and cap. Place: first such job."; "Hold is added .. in the lone rule"; "The
-- lone rule adds late to work and hold.": its own demand and its jitter above its deadline at its longest period
abbrev pub infeasible_alone : Task → Bool
infeasible_alone t = ltb (deadline t t.period_max) (own_demand t + t.jitter)

abbrev pub alone_fault : List Task → ℕ → Fault
alone_fault ts i = fault_if (infeasible_alone (task_at ts i)) 31 (suc i)

-- "32 'none': the point of all high bounds is not on time. Place: its first late job."
abbrev pub none_fault : List Task → Fault
none_fault ts = fault_if (not (schedulable ts (period_maxs ts))) 32 (first_missed (slack_list ts (period_maxs ts)))

-- "The jobs themselves, after those, 31 before 32"
unfoldable pub infeasible_fault : List Task → Fault
infeasible_fault ts = or_else (first_from (alone_fault ts) (length ts) 0) (none_fault ts)

-- "A work space has room for as many points as n goes wholly into its length."
abbrev pub room_of : List Task → ℕ → ℕ
room_of ts work = work / length ts

-- what a call comes to: its answer, and the periods of number 0, 33 and 34
pub record Outcome : Type 0 where
  pub answer : Answer
  pub periods : List ℕ

-- "Cost is 0 unless answered, bound 0 except with 33 and 34, rounds 0 before the first round"
abbrev pub refused : Fault → Outcome
refused f = record { answer = record { fault = f; cost = 0; rounds = 0; bound = 0 }; periods = [] }

-- of a search's end: the answer, or "With 33 and 34 .. the best, .. and cost is the best's."
abbrev pub searched : List ℕ → End (List ℕ) → Outcome
searched ws e = let xs = cond (eqb e.number 0) e.periods e.state in record {
  answer = record { fault = fault e.number 0; cost = cost ws xs; rounds = e.rounds; bound = e.bound };
  periods = xs;
}

-- of tasks, once the call's own rules have passed: 31 and 32, then what the search comes to
abbrev pub concluded : List Task → Outcome → Outcome
concluded ts x = cond (passed (infeasible_fault ts)) x (refused (infeasible_fault ts))

-- of a file's fault and tasks, and spaces of so many numbers
abbrev pub called : Fault → List Task → ℕ → ℕ → Outcome → Outcome
called f ts space work x =
    cond (passed (call_fault f ts space work)) (concluded ts x) (refused (call_fault f ts space work))

-- and with a budget
unfoldable pub outcome_of : Fault → List Task → ℕ → ℕ → ℕ → Outcome
outcome_of f ts budget space work =
    called f ts space work (searched (weights ts) (search ts budget (room_of ts work)))

abbrev pub outcome : List ℕ → ℕ → ℕ → ℕ → Outcome
outcome s budget space work = outcome_of (file_fault s) (tasks_of s) budget space work

-- an answer, 33 or 34
abbrev pub is_searched : ℕ → Bool
is_searched number = eqb number 0 || leb 33 number

-- "The point's space is written only with an answer.", and "With 33 and 34 the point's space holds the best, where 01
-- left it untouched"; any other number leaves it as it was
abbrev pub written : Outcome → List ℕ → List ℕ
written x o = cond (is_searched x.answer.fault.number) x.periods o

-- "After an answer, 33 or 34 every number of the work space is 0."; any other number leaves it as it was
abbrev pub cleared : Outcome → List ℕ → List ℕ
cleared x w = cond (is_searched x.answer.fault.number) (replicate (length w) 0) w

-- an outcome returned, and the two spaces before and afterwards
pub record Answers (x : Outcome) (o o' w w' : List ℕ) (r : Answer) : Type 0 where
  pub answer : r ≡ x.answer
  pub periods : o' ≡ written x o
  pub work : w' ≡ cleared x w

-- "plans without late keep their answers": those by the time test of exact release. First 31 and 32
abbrev pub exact_alone_fault : List Task → ℕ → Fault
exact_alone_fault ts i =
    let t = task_at ts i in fault_if (ltb (deadline t t.period_max) (own_demand t)) 31 (suc i)

abbrev pub exact_none_fault : List Task → Fault
exact_none_fault ts =
    fault_if (not (exact_schedulable ts (period_maxs ts))) 32 (first_missed (exact_slack_list ts (period_maxs ts)))

unfoldable pub exact_infeasible_fault : List Task → Fault
exact_infeasible_fault ts = or_else (first_from (exact_alone_fault ts) (length ts) 0) (exact_none_fault ts)

-- the rules in their order, then what the search by that test comes to
abbrev pub exact_called : Fault → List Task → ℕ → ℕ → Outcome → Outcome
exact_called f ts space work x =
    let g = or_else (call_fault f ts space work) (exact_infeasible_fault ts) in cond (passed g) x (refused g)

unfoldable pub exact_outcome_of : Fault → List Task → ℕ → ℕ → ℕ → Outcome
exact_outcome_of f ts budget space work =
    let e = search_by ts (exact_schedulable ts) budget (room_of ts work) in
    exact_called f ts space work (searched (weights ts) e)

-- CHEAPEST, of a file's fault and tasks
pub record Plans (f : Fault) (ts : List Task) (budget : ℕ) (o o' w w' : List ℕ) (r : Answer) : Type 0 where
  pub answers : Answers (outcome_of f ts budget (length o) (length w)) o o' w w' r
  -- demand 3
  pub settles : passed (call_fault f ts (length o) (length w)) ≡ true
      → Settles ts budget (room_of ts (length w)) r o'
  -- and what a stop gives besides
  pub improves : passed (call_fault f ts (length o) (length w)) ≡ true → Improves ts r o'
  -- "Exact release in 01 is now the case of late 0."
  pub exact_release : WithoutJitter ts
      → Answers (exact_outcome_of f ts budget (length o) (length w)) o o' w w' r
