-- What the functions ask and promise that look for the last period of a task at which deadlines are missed.
use Rattle.std.specs.Prelude.{◌≡◌, Bool, true, false, ◌&&◌, List, ℕ, suc, ◌-◌, ◌≤◌, ◌<◌, leb, length, get_or, set}
use Rattle.plan.specs.declared.tasks.Task.{Task}
use Rattle.plan.specs.Tasks.{max_ticks, task_at}
use Rattle.response.specs.Analysis.{own_demand, deadline_at, meets, schedulable}
use Rattle.response.specs.Inner.{Limits, Begins, busy_in_time, last_end}

-- where the period of task i may go
pub record Range (ts : List Task) (u : List ℕ) (i low most : ℕ) : Type 0 where
  pub limits : Limits ts u
  pub inside : i < length u
  pub order : low ≤ most
  pub ticks : most ≤ max_ticks

-- u', within the limits, differs from u in period i only
pub record Moved (ts : List Task) (i : ℕ) (u u' : List ℕ) : Type 0 where
  pub limits : Limits ts u'
  pub only : (x : ℕ) → set u' i x ≡ set u i x

-- v, from low to most: above low some task misses its deadline with period i at v; past v the tasks from k on and below
-- n meet theirs
pub record LastMiss (ts : List Task) (u : List ℕ) (i k n low most v : ℕ) : Type 0 where
  pub above : low ≤ v
  pub upto : v ≤ most
  pub misses : low < v → schedulable ts (set u i v) ≡ false
  pub past : (j : ℕ) → k ≤ j → j < n → (y : ℕ) → v < y → y ≤ most → meets ts (set u i y) j ≡ true

-- where the climbs of task k may begin, with period i at v
abbrev pub BeginsAt : List Task → List ℕ → ℕ → ℕ → ℕ → ℕ → Type 0
BeginsAt ts u i v k t = Begins (deadline_at ts (set u i v) k) ts (set u i v) k t

-- whether a time that covers the demand of a lower task, with its own demand, covers that of a task in time, too: the
-- task's blocking is in its own demand only
abbrev pub settles : Task → ℕ → ℕ → ℕ → Bool
settles task period own r = leb r (last_end task period) && leb task.blocking own

-- r is a time of task k: no climb right past v need begin before it; and a task above it, below task i, that it settles
-- meets its deadline everywhere past v
pub record Responds (ts : List Task) (u : List ℕ) (i k most v r : ℕ) : Type 0 where
  pub begins : v < most → BeginsAt ts u i (suc v) k r
  pub meet : (j : ℕ) → i < j → j < k → settles (task_at ts j) (get_or u j 0) (own_demand (task_at ts k)) r ≡ true
      → (y : ℕ) → v < y → y ≤ most → meets ts (set u i y) j ≡ true

-- the last period at which task k misses is looked for, below task i; its climbs may begin at start
pub record Seeks (ts : List Task) (u : List ℕ) (i k low most start : ℕ) : Type 0 where
  pub range : Range ts u i low most
  pub below : i < k
  pub inside : k < length u
  pub begins : BeginsAt ts u i most k start

-- that of the tasks between task i and task k, whose own last miss is known, with a time of it
pub record SeeksBetween (ts : List Task) (u : List ℕ) (i k most last busy : ℕ) : Type 0 where
  pub range : Range ts u i last most
  pub below : i < k
  pub inside : k < length u
  pub responds : Responds ts u i k most last busy

-- that of all tasks below task i; the climbs of the lowest may begin at start
pub record SeeksBelow (ts : List Task) (u : List ℕ) (i low most start : ℕ) : Type 0 where
  pub range : Range ts u i low most
  pub below : i < length u - 1
  pub begins : BeginsAt ts u i most (length u - 1) start

-- that of task i, too, which may be the lowest: own is its busy period at the period most
pub record SeeksFrom (ts : List Task) (u : List ℕ) (i own low most start : ℕ) : Type 0 where
  pub range : Range ts u i low most
  pub begins : BeginsAt ts u i most (length u - 1) start
  pub works : 1 ≤ own
  pub is : own ≡ busy_in_time ts (set u i most) i
