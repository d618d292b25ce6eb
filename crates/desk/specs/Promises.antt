-- What DESK promises, of any bytes, block and budget.
use Rattle.std.specs.Prelude.{◌≡◌, true, cond, List, ℕ, eqb, length, take}
use Rattle.plan.specs.Files.{file_fault, accepted, tasks_of}
use Rattle.response.specs.ExactRelease.{WithoutJitter}
use Rattle.optimizer.specs.Claims.{Settles, Improves}
use Rattle.optimizer.specs.Promises.{Outcome, outcome, exact_outcome_of, room_of}
use Rattle.desk.specs.declared.block.Carried.{Carried}
use Rattle.desk.specs.Block.{block_size, encoded, carried, carrying}

-- "It is CHEAPEST with a work space of 16,000 numbers."
abbrev pub desk_work : ℕ
desk_work = 16000

abbrev pub desk_outcome : List ℕ → ℕ → Outcome
desk_outcome s budget = outcome s budget (length (tasks_of s)) desk_work

abbrev pub desk_carries : List ℕ → ℕ → Carried
desk_carries s budget = carrying (desk_outcome s budget) (length (tasks_of s))

-- "Demand 3 holds of what the block carries, too.", and so does what a stop gives besides
pub record Fulfils (s : List ℕ) (budget : ℕ) (c : Carried) : Type 0 where
  pub settles : Settles (tasks_of s) budget (room_of (tasks_of s) desk_work) c.answer (take c.tasks c.periods)
  pub improves : Improves (tasks_of s) c.answer (take c.tasks c.periods)

-- DESK, with the block b before and b' after
pub record Calls (s : List ℕ) (budget : ℕ) (b b' : List ℕ) (r : ℕ) : Type 0 where
  -- "25: DESK's block not 100 bytes; tested before the file."; "The number is also returned."
  pub returns : r ≡ cond (eqb (length b) block_size) (desk_outcome s budget).answer.fault.number 25
  -- "DESK writes its whole block for every number but 25."
  pub block : b' ≡ cond (eqb (length b) block_size) (encoded (desk_carries s budget)) b
  -- and the block's bytes read back are what was written
  pub carries : length b ≡ block_size → carried b' ≡ desk_carries s budget
  pub fulfils : length b ≡ block_size → accepted s ≡ true → Fulfils s budget (carried b')
  -- "Exact release in 01 is now the case of late 0.": the outcome that the block carries is then that by its time test
  pub exact_release : let ts = tasks_of s in WithoutJitter ts
      → desk_outcome s budget ≡ exact_outcome_of (file_fault s) ts budget (length ts) desk_work
