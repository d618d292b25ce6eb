-- What the functions that lower a node ask and promise; and where a climb may begin, in raising a node, too.
use Rattle.std.specs.Prelude.{◌≡◌, true, cond, List, ℕ, ◌+◌, ◌-◌, ◌≤◌, ◌<◌, eqb, leb, length, get_or}
use Rattle.plan.specs.declared.tasks.Task.{Task}
use Rattle.plan.specs.Tasks.{task_at, period_maxs}
use Rattle.response.specs.Analysis.{own_demand, max_response, schedulable}
use Rattle.response.specs.Assignments.{cost, within_bounds}

-- a node whose lowering is looked for, among tasks that are schedulable at their longest periods
pub record LowersNode (ts : List Task) (node : List ℕ) : Type 0 where
  pub bounded : within_bounds ts node ≡ true
  pub top : schedulable ts (period_maxs ts) ≡ true

-- x is the lowering and c its cost, up to a limit; past it both are past
pub record LowersUpTo (ws lowered : List ℕ) (limit : ℕ) (x : List ℕ) (c : ℕ) : Type 0 where
  pub sized : length x ≡ length lowered
  pub is : c ≤ limit → (x ≡ lowered) × (c ≡ cost ws lowered)
  pub past : limit < c → limit < cost ws lowered

-- schedulable periods within the bounds, at least the node's, to be lowered
pub record Lowers (ts : List Task) (node x : List ℕ) : Type 0 where
  pub given : LowersNode ts node
  pub within : within_bounds ts x ≡ true
  pub above : (k : ℕ) → get_or node k 0 ≤ get_or x k 0
  pub met : schedulable ts x ≡ true

-- where a climb of a task may begin, by the busy period of a task above it
abbrev pub begin_below : Task → Task → ℕ → ℕ
begin_below task above busy =
    let own = own_demand task in cond (leb above.blocking own) (busy + (own - above.blocking)) own

-- of task i, by the task right above it
abbrev pub begin_at : List Task → ℕ → ℕ → ℕ
begin_at ts i above = cond (eqb i 0) (own_demand (task_at ts i)) (begin_below (task_at ts i) (task_at ts (i - 1)) above)

pub record BeginsBelow (ts : List Task) (i above : ℕ) : Type 0 where
  pub inside : i < length ts
  pub early : above ≤ max_response
