-- Predecessors (in the request: feeders). Tasks are counted from 1, as in the pairs.
use Rattle.std.specs.Prelude.{◌≡◌, ◌↔◌, List, ℕ, zero, suc, ◌+◌, count_ones}
use Rattle.std.specs.Int.{bit_at}
use Rattle.std.specs.List.{Contains}
use Rattle.plan.specs.Tasks.{max_tasks}
use Rattle.precedence.specs.declared.pairs.Pair.{Pair}

-- a pair names task k as a predecessor of task i
abbrev pub Named : List Pair → ℕ → ℕ → Type 0
Named ps k i = Contains ps (record { predecessor = k; successor = i })

-- a chain of pairs, of any length, leads from task k to task i: "A job's feeders are those that a pair names for it,
-- and every feeder of those in turn."; "A job that reads, through others, what it wrote itself counts among its own
-- feeders", so i may be k
pub data Chain (ps : List Pair) (k : ℕ) : ℕ → Type 0 where
  one_pair : {i : ℕ} → Named ps k i → Chain ps k i
  one_more : {j i : ℕ} → Chain ps k j → Named ps j i → Chain ps k i

-- how many of the bits below n are set
abbrev pub ones_below : ℕ → ℕ → ℕ
ones_below zero mask = 0
ones_below (suc n) mask = ones_below n mask + bit_at mask n

-- "Job sets are kept as the bits of one number, and the answer states how many feeders each job has.": a mask of task
-- i's predecessors, whose bit 0 stands for task 1, and their number
pub record Predecessors (ps : List Pair) (i count : ℕ) : Type 0 where
  pub mask : ℕ
  pub chains : (k : ℕ) → (bit_at mask k ≡ 1) ↔ Chain ps (suc k) i
  pub ones : count ≡ count_ones mask
  -- each task once: "A repeated pair adds no feeder"
  pub distinct : count ≡ ones_below max_tasks mask
