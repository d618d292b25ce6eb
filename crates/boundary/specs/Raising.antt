-- What the functions that find a maximal unschedulable assignment ask and promise.
use Rattle.std.specs.Prelude.{◌≡◌, true, false, List, ℕ, ◌≤◌, ◌<◌, get_or, set}
use Rattle.plan.specs.declared.tasks.Task.{Task}
use Rattle.plan.specs.Tasks.{period_maxs}
use Rattle.response.specs.Analysis.{first_meet, schedulable}
use Rattle.response.specs.Inner.{Limits}
use Rattle.boundary.specs.Misses.{Range, BeginsAt}

-- an unschedulable assignment up to the longest periods
pub record Unschedulable (ts : List Task) (u : List ℕ) : Type 0 where
  pub limits : Limits ts u
  pub high : (k : ℕ) → get_or u k 0 ≤ get_or (period_maxs ts) k 0
  pub fails : schedulable ts u ≡ false

-- an unschedulable assignment, to be raised in period i; the tasks above meet their deadlines, and the climb of task i
-- may begin at a time
pub record Raises (ts : List Task) (u : List ℕ) (i most begin : ℕ) : Type 0 where
  pub range : Range ts u i (get_or u i 0) most
  pub fails : schedulable ts u ≡ false
  pub above : first_meet ts u i ≡ true
  pub begins : BeginsAt ts u i most i begin

-- u' is u with period i at the greatest value up to most that leaves it unschedulable
pub record Raised (ts : List Task) (u : List ℕ) (i most : ℕ) (u' : List ℕ) : Type 0 where
  pub value : ℕ
  pub is : u' ≡ set u i value
  pub above : get_or u i 0 ≤ value
  pub upto : value ≤ most
  pub fails : schedulable ts u' ≡ false
  pub past : (y : ℕ) → value < y → y ≤ most → schedulable ts (set u i y) ≡ true
