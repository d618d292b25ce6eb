-- Exact release: the time test of tasks that are released at their moments, without jitter.
use Rattle.std.specs.Prelude.{◌≡◌, Bool, true, ◌&&◌, List, ℕ, zero, suc, ◌+◌, ◌*◌, ◌<◌, length, get_or, ℤ, pos, int_le}
use Rattle.plan.specs.declared.tasks.Task.{Task}
use Rattle.plan.specs.Lists.{tabulate}
use Rattle.plan.specs.Tasks.{task_at}
use Rattle.response.specs.Analysis.{ceiling, own_demand, deadline_at, climb_from, max_response, slack_of}

-- "the case of late 0"
abbrev pub WithoutJitter : List Task → Type 0
WithoutJitter ts = (i : ℕ) → i < length ts → (task_at ts i).jitter ≡ 0

-- "for each job above it, that job's work times (t over its period, rounded up)"
abbrev pub exact_above : List Task → List ℕ → ℕ → ℕ → ℕ
exact_above ts xs zero t = 0
exact_above ts xs (suc j) t = exact_above ts xs j t + (task_at ts j).wcet * ceiling t (get_or xs j 0)

-- "its own work plus" that; "Hold is added once to a job's own work"
abbrev pub exact_demand : List Task → List ℕ → ℕ → ℕ → ℕ
exact_demand ts xs i t = own_demand (task_at ts i) + exact_above ts xs i t

-- "The response is now the least t up to 2,000,000"
unfoldable pub exact_response_time : List Task → List ℕ → ℕ → ℕ
exact_response_time ts xs i =
    climb_from (suc max_response) max_response (exact_demand ts xs i) (own_demand (task_at ts i))

abbrev pub exact_slack : List Task → List ℕ → ℕ → ℤ
exact_slack ts xs i = slack_of (deadline_at ts xs i) (exact_response_time ts xs i)

unfoldable pub exact_slack_list : List Task → List ℕ → List ℤ
exact_slack_list ts xs = tabulate (exact_slack ts xs) (length ts) 0

-- "A job is on time exactly when its slack is 0 or more"; "A point is on time if every job is."
abbrev pub exact_first_meet : List Task → List ℕ → ℕ → Bool
exact_first_meet ts xs zero = true
exact_first_meet ts xs (suc i) = exact_first_meet ts xs i && int_le (pos 0) (exact_slack ts xs i)

unfoldable pub exact_schedulable : List Task → List ℕ → Bool
exact_schedulable ts xs = exact_first_meet ts xs (length ts)
