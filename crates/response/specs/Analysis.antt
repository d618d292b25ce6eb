-- The exact test of Lehoczky, Sha and Ding. Task i is counted from 0, the highest priority first.
use Rattle.std.specs.Prelude.{Bool, true, false, ◌&&◌, cond, List, [], ◌∷◌, ℕ, zero, suc, ◌+◌, ◌-◌, ◌*◌, ◌/◌, min, ltb, leb, length, get_or}
use Rattle.std.specs.Prelude.{ℤ, pos, neg_ℤ, ◌-ℤ◌, int_lt, int_le}
use Rattle.plan.specs.declared.tasks.Task.{Task}
use Rattle.plan.specs.Lists.{tabulate}
use Rattle.plan.specs.Tasks.{task_at}

-- "(.. rounded up)"
abbrev pub ceiling : ℕ → ℕ → ℕ
ceiling a zero = 0
ceiling a (suc p) = (a + p) / suc p

-- "its own work"; "Hold is added once to a job's own work in its time test"
abbrev pub own_demand : Task → ℕ
own_demand task = task.wcet + task.blocking

-- "A job j above counts (t + late_j) / x_j rounded up": how often a task with a period may be released before time t
abbrev pub releases : Task → ℕ → ℕ → ℕ
releases task period t = ceiling (t + task.jitter) period

-- "that job's work times" its releases
abbrev pub interference : Task → ℕ → ℕ → ℕ
interference task period t = task.wcet * releases task period t

-- "The deadline of job i at x is the smaller of x_i and cap_i."
abbrev pub deadline : Task → ℕ → ℕ
deadline task period = min period task.deadline_cap

-- "for each job above it": the tasks above task i
abbrev pub interference_above : List Task → List ℕ → ℕ → ℕ → ℕ
interference_above ts xs zero t = 0
interference_above ts xs (suc j) t = interference_above ts xs j t + interference (task_at ts j) (get_or xs j 0) t

unfoldable pub demand : List Task → List ℕ → ℕ → ℕ → ℕ
demand ts xs i t = own_demand (task_at ts i) + interference_above ts xs i t

abbrev pub deadline_at : List Task → List ℕ → ℕ → ℕ
deadline_at ts xs i = deadline (task_at ts i) (get_or xs i 0)

-- "The search for t climbs from the job's own work and stops at the first t that covers its own demand, or past" a last
-- t; 0 past it
unfoldable pub climb_from : ℕ → ℕ → (ℕ → ℕ) → ℕ → ℕ
climb_from zero last needs t = 0
climb_from (suc left) last needs t =
    elim (ltb last t) [
      | true ↦ 0
      | false ↦ elim (leb (needs t) t) [ true ↦ t | false ↦ climb_from left last needs (needs t) ]
    ]

-- the field's busy period: the least t up to a last one that covers; 0 where there is none
unfoldable pub busy_period : ℕ → List Task → List ℕ → ℕ → ℕ
busy_period last ts xs i = climb_from (suc last) last (demand ts xs i) (own_demand (task_at ts i))

-- "t plus its own late, and that sum is held against the deadline" or another limit
abbrev pub busy_up_to : ℕ → List Task → List ℕ → ℕ → ℕ
busy_up_to limit ts xs i = busy_period (limit - (task_at ts i).jitter) ts xs i

-- "E4's ceiling of 2,000,000"
abbrev pub max_response : ℕ
max_response = 2000000

-- "A job's response is t plus its own late"; 0 where there is none
abbrev pub response_of : Task → ℕ → ℕ
response_of task zero = 0
response_of task (suc t) = suc t + task.jitter

abbrev pub response_time : List Task → List ℕ → ℕ → ℕ
response_time ts xs i = response_of (task_at ts i) (busy_up_to max_response ts xs i)

-- "If there is none, write −2,000,000, which no real slack reaches."
abbrev pub no_slack : ℤ
no_slack = neg_ℤ (pos max_response)

-- "slack ..: deadline minus response time, below zero for a late job"
abbrev pub slack_of : ℕ → ℕ → ℤ
slack_of deadline zero = no_slack
slack_of deadline (suc r) = pos deadline -ℤ pos (suc r)

abbrev pub slack : List Task → List ℕ → ℕ → ℤ
slack ts xs i = slack_of (deadline_at ts xs i) (response_time ts xs i)

-- "A job is on time exactly when its slack is 0 or more"
abbrev pub meets : List Task → List ℕ → ℕ → Bool
meets ts xs i = int_le (pos 0) (slack ts xs i)

-- "A point is on time if every job is."
abbrev pub first_meet : List Task → List ℕ → ℕ → Bool
first_meet ts xs zero = true
first_meet ts xs (suc i) = first_meet ts xs i && meets ts xs i

unfoldable pub schedulable : List Task → List ℕ → Bool
schedulable ts xs = first_meet ts xs (length ts)

-- "TIMES shall write slack, in signed 32-bit numbers"
unfoldable pub slack_list : List Task → List ℕ → List ℤ
slack_list ts xs = tabulate (slack ts xs) (length ts) 0

-- "the count of late jobs and the first of them (0 if none)", counted from 1
abbrev pub missed_count : List ℤ → ℕ
missed_count [] = 0
missed_count (s ∷ ss) = cond (int_lt s (pos 0)) 1 0 + missed_count ss

abbrev pub first_missed_from : ℕ → List ℤ → ℕ
first_missed_from task [] = 0
first_missed_from task (s ∷ ss) = elim (int_lt s (pos 0)) [ true ↦ task | false ↦ first_missed_from (suc task) ss ]

abbrev pub first_missed : List ℤ → ℕ
first_missed ss = first_missed_from 1 ss
