-- What the inner functions promise each other. A reader of the public call needs none of it.
use Rattle.std.specs.Prelude.{◌≡◌, true, List, ℕ, ◌^◌, ◌<◌, get_or}
use Rattle.plan.specs.Files.{accepted}
use Rattle.desk.specs.declared.block.Carried.{Carried}
use Rattle.desk.specs.Block.{encoded, carried}
use Rattle.desk.specs.Promises.{desk_carries, Fulfils}

-- numbers of 4 bytes each
abbrev pub Narrow : List ℕ → Type 0
Narrow xs = (k : ℕ) → get_or xs k 0 < 256 ^ 4

-- the block's bytes, and what they read back as
pub record Writes (a : Carried) (b' : List ℕ) : Type 0 where
  pub bytes : b' ≡ encoded a
  pub reads : carried b' ≡ a

-- what a block is to carry
pub record Finds (s : List ℕ) (budget : ℕ) (c : Carried) : Type 0 where
  pub is : c ≡ desk_carries s budget
  pub fulfils : accepted s ≡ true → Fulfils s budget c
