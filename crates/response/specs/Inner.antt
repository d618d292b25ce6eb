-- What the inner functions ask and promise, for their callers' proofs. A reader of the public calls needs none of it.
use Rattle.std.specs.Prelude.{◌≡◌, List, ℕ, zero, suc, ◌+◌, ◌-◌, ◌*◌, ◌/◌, ◌≤◌, ◌<◌, length, get_or, Option, Some, None}
use Rattle.plan.specs.declared.tasks.Task.{Task}
use Rattle.plan.specs.Tasks.{max_tasks, max_ticks, task_at, Valid, AllValid}
use Rattle.response.specs.Analysis.{deadline, deadline_at, max_response, busy_up_to}
use Rattle.response.specs.Claims.{Covers}

-- the busy period of a task that meets its deadline, 0 for one that misses it: whether it does is known once the
-- deadline is passed
abbrev pub busy_in_time : List Task → List ℕ → ℕ → ℕ
busy_in_time ts xs i = busy_up_to (deadline_at ts xs i) ts xs i

-- what the time test asks: valid tasks, and as many periods, none of them 0, so that no sum and no product wraps
pub record Limits (ts : List Task) (xs : List ℕ) : Type 0 where
  pub valid : AllValid ts
  pub few : length ts ≤ max_tasks
  pub sized : length xs ≡ length ts
  pub some : (k : ℕ) → k < length xs → 1 ≤ get_or xs k 0
  pub most : (k : ℕ) → get_or xs k 0 ≤ max_ticks

-- a valid task, at a period, by a time
pub record Interferes (task : Task) (period t : ℕ) : Type 0 where
  pub valid : Valid task
  pub some : 1 ≤ period
  pub most : period ≤ max_ticks
  pub by : t ≤ max_response

-- where a climb up to a limit may begin: at a time that none that covers task i's demand undercuts
pub record Begins (limit : ℕ) (ts : List Task) (xs : List ℕ) (i t : ℕ) : Type 0 where
  pub some : 1 ≤ t
  pub below : (s : ℕ) → Covers limit ts xs i s → t ≤ s

-- the last t with which a task at a period meets its deadline; 0 where there is none
abbrev pub last_end : Task → ℕ → ℕ
last_end task period = deadline task period - task.jitter

abbrev pub last_end_at : List Task → List ℕ → ℕ → ℕ
last_end_at ts xs i = last_end (task_at ts i) (get_or xs i 0)

-- a climb of task i from a start up to a last t
pub record Climbs (last : ℕ) (ts : List Task) (xs : List ℕ) (i start : ℕ) : Type 0 where
  pub inside : i < length ts
  pub ends : last ≤ max_response
  pub begins : Begins (last + (task_at ts i).jitter) ts xs i start

-- a task's utilization of the processor, its wcet over its period, in parts of the whole and rounded down
abbrev pub whole : ℕ
whole = 4294967296

abbrev pub utilization : Task → ℕ → ℕ
utilization task period = task.wcet * whole / period

-- that of the tasks above task i
abbrev pub utilization_above : List Task → List ℕ → ℕ → ℕ
utilization_above ts xs zero = 0
utilization_above ts xs (suc j) = utilization_above ts xs j + utilization (task_at ts j) (get_or xs j 0)

-- where a climb up to a limit may begin by the utilization above: no time by which what it leaves idle holds the own
-- demand comes before
pub record BeginsByUtilization (own above limit t : ℕ) : Type 0 where
  pub some : 1 ≤ t
  pub below : (s : ℕ) → s ≤ limit → own * whole + above * s ≤ s * whole → t ≤ s

-- a time that is 0 where there is none, and a task, counted from 1, that is 0 where there is none
abbrev pub some_time : ℕ → Option ℕ
some_time zero = None
some_time (suc t) = Some (suc t)

abbrev pub some_task : Option ℕ → ℕ
some_task None = 0
some_task (Some i) = suc i
