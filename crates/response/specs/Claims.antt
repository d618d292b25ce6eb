-- Demand 2, of the definitions: "a job's time is the least whole number of ticks t, from 1 to the smaller of its period
-- and its cap, covering its own work plus, for each job above it, that job's work times (t over its period, rounded
-- up)"; "A job j above counts (t + late_j) / x_j rounded up. A job's response is t plus its own late, and that sum is
-- held against the deadline"; and what a slack says of it.
use Rattle.std.specs.Prelude.{◌≡◌, ℕ, ◌+◌, ◌≤◌, List, ℤ, pos, ◌-ℤ◌, ◌≤ℤ◌, ◌<ℤ◌}
use Rattle.plan.specs.declared.tasks.Task.{Task}
use Rattle.plan.specs.Tasks.{task_at}
use Rattle.response.specs.Analysis.{demand, deadline_at, max_response, no_slack}

-- t, from 1 on, covers task i's demand, and t plus the task's jitter is at most a limit
pub record Covers (limit : ℕ) (ts : List Task) (xs : List ℕ) (i t : ℕ) : Type 0 where
  pub some : 1 ≤ t
  pub early : t + (task_at ts i).jitter ≤ limit
  pub covers : demand ts xs i t ≤ t

-- no t does
abbrev pub NoneCovers : ℕ → List Task → List ℕ → ℕ → Type 0
NoneCovers limit ts xs i = (t : ℕ) → Covers limit ts xs i t → ⊥

-- some t does, and s is task i's deadline minus the least response
pub record SlackUpTo (limit : ℕ) (ts : List Task) (xs : List ℕ) (i : ℕ) (s : ℤ) : Type 0 where
  pub busy : ℕ
  pub covers : Covers limit ts xs i busy
  pub least : (t : ℕ) → Covers limit ts xs i t → busy ≤ t
  pub is : s ≡ pos (deadline_at ts xs i) -ℤ pos (busy + (task_at ts i).jitter)

-- s is task i's slack
pub record IsSlack (ts : List Task) (xs : List ℕ) (i : ℕ) (s : ℤ) : Type 0 where
  -- "A job is on time exactly when its slack is 0 or more": then some t up to the deadline covers, and only then
  pub met : pos 0 ≤ℤ s → SlackUpTo (deadline_at ts xs i) ts xs i s
  pub on_time : (t : ℕ) → Covers (deadline_at ts xs i) ts xs i t → pos 0 ≤ℤ s
  -- "below zero for a late job. The response is now the least t up to 2,000,000, not only up to the deadline."
  pub late : s <ℤ pos 0 → no_slack <ℤ s
      → SlackUpTo max_response ts xs i s × NoneCovers (deadline_at ts xs i) ts xs i
  -- "If there is none, write −2,000,000, which no real slack reaches."
  pub none : s ≡ no_slack → NoneCovers max_response ts xs i
  pub is_none : NoneCovers max_response ts xs i → s ≡ no_slack
  pub least : no_slack ≤ℤ s
