-- Demand 3, over the time test and not over the search: of the answer that a call returns and the periods that it
-- writes.
use Rattle.std.specs.Prelude.{◌≡◌, true, ◌⊎◌, List, ℕ, ◌≤◌, ◌<◌, length}
use Rattle.plan.specs.declared.tasks.Task.{Task}
use Rattle.plan.specs.Tasks.{weights}
use Rattle.response.specs.Analysis.{deadline_at}
use Rattle.response.specs.Assignments.{cost, less, within_bounds, assignment_count}
use Rattle.response.specs.Claims.{Covers}
use Rattle.optimizer.specs.declared.conclusion.Answer.{Answer}

-- an on-time timetable within the bounds: for every task some t covers its demand, and t plus its jitter is at most its
-- deadline
pub record Feasible (ts : List Task) (xs : List ℕ) : Type 0 where
  pub bounded : within_bounds ts xs ≡ true
  pub met : (i : ℕ) → i < length ts → (t : ℕ) × Covers (deadline_at ts xs i) ts xs i t

abbrev pub Infeasible : List Task → Type 0
Infeasible ts = (ys : List ℕ) → Feasible ts ys → ⊥

-- number 31 or 32; 33 or 34
abbrev pub IsNone : Answer → Type 0
IsNone a = (a.fault.number ≡ 31) ⊎ (a.fault.number ≡ 32)

abbrev pub IsStop : Answer → Type 0
IsStop a = (a.fault.number ≡ 33) ⊎ (a.fault.number ≡ 34)

pub record Settles (ts : List Task) (budget room : ℕ) (a : Answer) (xs : List ℕ) : Type 0 where
  -- an answer, "lone" or "none", or a stop: no other number
  pub numbers : (a.fault.number ≡ 0) ⊎ (IsNone a ⊎ IsStop a)
  -- "What CHEAPEST answers is an on-time timetable within the bounds and that timetable's cost"
  pub answered : a.fault.number ≡ 0 → Feasible ts xs × (a.cost ≡ cost (weights ts) xs)
  -- "every other on-time timetable within the bounds costs more, or costs the same and comes later"
  pub cheapest : a.fault.number ≡ 0
      → (ys : List ℕ) → Feasible ts ys → (ys ≡ xs → ⊥) → less (weights ts) xs ys ≡ true
  -- "'Lone' or 'none' comes exactly where no timetable within the bounds is on time."
  pub infeasible : IsNone a → Infeasible ts
  pub feasible : Infeasible ts → IsNone a
  -- "A stop names a bound, and every on-time timetable within the bounds costs at least that."
  pub stopped : IsStop a → (ys : List ℕ) → Feasible ts ys → a.bound ≤ cost (weights ts) ys
  -- "No stop comes where the budget is at least the number of points within the bounds and the work space has room for
  -- at least as many.": an answer, where there is one
  pub unstopped : assignment_count ts ≤ budget → assignment_count ts ≤ room
      → (ys : List ℕ) → Feasible ts ys → a.fault.number ≡ 0
  -- "rounds never exceed the number of points within the bounds", nor the budget
  pub few_rounds : a.rounds ≤ assignment_count ts
  pub in_budget : a.rounds ≤ budget

-- a stop's incumbent, besides: "With 33 and 34 the point's space holds the best, .. and cost is the best's."
pub record Improves (ts : List Task) (a : Answer) (xs : List ℕ) : Type 0 where
  -- "the best is on time", and within the bounds
  pub incumbent : IsStop a → Feasible ts xs × (a.cost ≡ cost (weights ts) xs)
  -- so the bound of a stop is at most the cost
  pub bounded : IsStop a → a.bound ≤ a.cost
