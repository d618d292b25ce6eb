-- Tasks (in plan files: jobs) and their limits. "The limits belong to the plan record itself": constants of `Plan`.
use Rattle.std.specs.Prelude.{Bool, ◌&&◌, cond, List, [], ◌∷◌, map, ℕ, ◌+◌, ◌≤◌, ◌<◌, eqb, leb, length, get_or}
use Rattle.plan.specs.declared.tasks.Task.{Task}
use Rattle.plan.specs.Words.{word}
use Rattle.plan.specs.Layout.{version}

-- "n 1 to 16; C, lo, hi, cap each 1 to 1,000,000; w 0 to 1,000; file 16 to 2,048 bytes"; "hold and late, 4 bytes each,
-- 0 to 1,000,000"
abbrev pub max_tasks : ℕ
max_tasks = 16

abbrev pub max_ticks : ℕ
max_ticks = 1000000

abbrev pub max_weight : ℕ
max_weight = 1000

abbrev pub max_blocking : ℕ
max_blocking = 1000000

abbrev pub max_jitter : ℕ
max_jitter = 1000000

abbrev pub min_file : ℕ
min_file = 16

abbrev pub max_file : ℕ
max_file = 2048

abbrev pub between : ℕ → ℕ → ℕ → Bool
between low x high = leb low x && leb x high

abbrev pub within_limits : Task → Bool
within_limits t =
    between 1 t.wcet max_ticks
    && (between 1 t.period_min max_ticks
    && (between 1 t.period_max max_ticks
    && (between 1 t.deadline_cap max_ticks
    && (leb t.weight max_weight && (leb t.blocking max_blocking && leb t.jitter max_jitter)))))

-- "per job C, lo, hi, cap, w, 4 bytes each"; "after the weight come hold and late"; "Version 1 rows mean 0 for both":
-- the row from an offset on
abbrev pub further_field : List ℕ → ℕ → ℕ
further_field s at = cond (eqb (version s) 1) 0 (word s at 4)

abbrev pub row_at : List ℕ → ℕ → Task
row_at s at = record {
  wcet = word s at 4;
  period_min = word s (at + 4) 4;
  period_max = word s (at + 8) 4;
  deadline_cap = word s (at + 12) 4;
  weight = word s (at + 16) 4;
  blocking = further_field s (at + 20);
  jitter = further_field s (at + 24);
}

-- its fields in the order of a row
abbrev pub row_fields : ℕ
row_fields = 7

abbrev pub row_of : Task → List ℕ
row_of t =
    t.wcet ∷ t.period_min ∷ t.period_max ∷ t.deadline_cap ∷ t.weight
    ∷ t.blocking ∷ t.jitter ∷ []

-- a task that the rules 8 and 9 let pass
pub record Valid (t : Task) : Type 0 where
  pub wcet_some : 1 ≤ t.wcet
  pub wcet_most : t.wcet ≤ max_ticks
  pub min_some : 1 ≤ t.period_min
  pub ordered : t.period_min ≤ t.period_max
  pub max_most : t.period_max ≤ max_ticks
  pub cap_some : 1 ≤ t.deadline_cap
  pub cap_most : t.deadline_cap ≤ max_ticks
  pub weight_most : t.weight ≤ max_weight
  pub blocking_most : t.blocking ≤ max_blocking
  pub jitter_most : t.jitter ≤ max_jitter

-- task i of a list, counted from 0: "Job 1 has the highest priority, then job 2, and so on"; a missing one is all zeros
abbrev pub no_task : Task
no_task = record {
  wcet = 0;
  period_min = 0;
  period_max = 0;
  deadline_cap = 0;
  weight = 0;
  blocking = 0;
  jitter = 0;
}

abbrev pub task_at : List Task → ℕ → Task
task_at ts i = get_or ts i no_task

abbrev pub AllValid : List Task → Type 0
AllValid ts = (i : ℕ) → i < length ts → Valid (task_at ts i)

-- one field of each task
abbrev pub period_mins : List Task → List ℕ
period_mins ts = map (λ t. t.period_min) ts

abbrev pub period_maxs : List Task → List ℕ
period_maxs ts = map (λ t. t.period_max) ts

abbrev pub weights : List Task → List ℕ
weights ts = map (λ t. t.weight) ts
