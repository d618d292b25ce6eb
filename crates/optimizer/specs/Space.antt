-- What holds of the weights of open nodes all the time.
use Rattle.std.specs.Prelude.{List, ℕ, ◌≤◌, length, get_or}
use Rattle.plan.specs.Tasks.{max_tasks, max_weight}

-- weights of some tasks; with periods, 64 bits hold their cost
pub record Light (ws : List ℕ) : Type 0 where
  pub some : 1 ≤ length ws
  pub few : length ws ≤ max_tasks
  pub light : (i : ℕ) → get_or ws i 0 ≤ max_weight
