-- What inner functions promise each other. Tasks are counted from 1 in pairs and from 0 in masks.
use Rattle.std.specs.Prelude.{◌≡◌, ◌↔◌, cond, List, map, ℕ, suc, ◌≤◌, eqb, get_or, bit_or}
use Rattle.std.specs.Int.{bit_at}
use Rattle.std.specs.List.{All}
use Rattle.precedence.specs.declared.pairs.Pair.{Pair}
use Rattle.precedence.specs.Chains.{Named, Chain}

-- the most pairs of a list
abbrev pub max_pairs : ℕ
max_pairs = 120

-- a pair as two bytes
abbrev pub pair_of : List ℕ → Pair
pair_of chunk = record { predecessor = get_or chunk 0 0; successor = get_or chunk 1 0 }

-- a pair is of two of the tasks 1 to n
pub record OfTasks (n : ℕ) (p : Pair) : Type 0 where
  pub first : 1 ≤ p.predecessor
  pub first_most : p.predecessor ≤ n
  pub second : 1 ≤ p.successor
  pub second_most : p.successor ≤ n

abbrev pub AllOfTasks : ℕ → List Pair → Type 0
AllOfTasks n ps = All (OfTasks n) ps

-- bit k of task i's mask
abbrev pub bit_of : List ℕ → ℕ → ℕ → ℕ
bit_of masks i k = bit_at (get_or masks i 0) k

-- a mask has exactly the tasks that a pair names, or from which a chain leads
abbrev pub HasNamed : List Pair → List ℕ → Type 0
HasNamed ps masks = (i k : ℕ) → (bit_of masks i k ≡ 1) ↔ Named ps (suc k) (suc i)

abbrev pub HasChains : List Pair → List ℕ → Type 0
HasChains ps masks = (i k : ℕ) → (bit_of masks i k ≡ 1) ↔ Chain ps (suc k) (suc i)

-- a mask joined with task j's own, if it has task j
abbrev pub joined : ℕ → List ℕ → ℕ → ℕ
joined j masks mask = cond (eqb (bit_at mask j) 1) (bit_or mask (get_or masks j 0)) mask

abbrev pub joined_through : ℕ → List ℕ → List ℕ
joined_through j masks = map (joined j masks) masks
