-- The list of pairs, its refusals 61 and 62, and the order that it asks for (docs/FORMAT.md, "Who feeds whom").
use Rattle.std.specs.Prelude.{Bool, ◌||◌, ◌&&◌, not, cond, List, [], ◌∷◌, ℕ, suc, ◌%◌, eqb, ltb, leb, length}
use Rattle.std.specs.List.{position_or_len}
use Rattle.plan.specs.declared.faults.Fault.{Fault}
use Rattle.plan.specs.Faults.{fault_if}
use Rattle.plan.specs.Tasks.{between}
use Rattle.precedence.specs.declared.pairs.Pair.{Pair}

-- "a list of pairs, two bytes each, feeder then reader, as job numbers"; a byte left over is in no pair
abbrev pub pairs_of : List ℕ → List Pair
pairs_of [] = []
pairs_of (k ∷ []) = []
pairs_of (k ∷ i ∷ rest) = record { predecessor = k; successor = i } ∷ pairs_of rest

-- "61, the list's length is odd or above 240 bytes, place 0"
abbrev pub max_list : ℕ
max_list = 240

abbrev pub list_fault : List ℕ → Fault
list_fault list = fault_if (not (eqb (length list % 2) 0) || ltb max_list (length list)) 61 0

-- the first pair that a test holds of, counted from 1, or 0 if there is none
abbrev pub first_pair : (Pair → Bool) → List Pair → ℕ
first_pair test ps = let i = position_or_len test ps in cond (ltb i (length ps)) (suc i) 0

-- "62, a job number not 1 to n, place the first such pair, counted from 1": of n tasks
abbrev pub is_outside : ℕ → Pair → Bool
is_outside n p = not (between 1 p.predecessor n && between 1 p.successor n)

abbrev pub pairs_fault : ℕ → List Pair → Fault
pairs_fault n ps = let at = first_pair (is_outside n) ps in fault_if (not (eqb at 0)) 62 at

-- "the first pair, counted from 1, whose feeder does not stand above its reader in the table, or 0 if there is none"
abbrev pub is_misordered : Pair → Bool
is_misordered p = leb p.successor p.predecessor

abbrev pub first_misordered : List Pair → ℕ
first_misordered ps = first_pair is_misordered ps
