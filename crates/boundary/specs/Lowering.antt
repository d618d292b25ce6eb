-- The lowering of a node: a schedulable assignment above it, over a time test and the greatest periods.
use Rattle.std.specs.Prelude.{Bool, true, false, List, ℕ, zero, suc, ◌-◌, length, get_or, set}

-- "lower the period to the least value that is not below the corner's and leaves the point on time": values v,
-- v + 1, ..
abbrev pub lowered_from : ℕ → (List ℕ → Bool) → List ℕ → ℕ → ℕ → List ℕ
lowered_from zero test x i v = x
lowered_from (suc left) test x i v =
    elim (test (set x i v)) [ true ↦ set x i v | false ↦ lowered_from left test x i (suc v) ]

abbrev pub lowered : (List ℕ → Bool) → List ℕ → List ℕ → ℕ → List ℕ
lowered test node x i = lowered_from (suc (get_or x i 0 - get_or node i 0)) test x i (get_or node i 0)

-- "start again from all high bounds and, for jobs 1 to n in turn"
abbrev pub lowering_from : ℕ → (List ℕ → Bool) → List ℕ → List ℕ → ℕ → List ℕ
lowering_from zero test node x i = x
lowering_from (suc left) test node x i = lowering_from left test node (lowered test node x i) (suc i)

unfoldable pub lowering : (List ℕ → Bool) → List ℕ → List ℕ → List ℕ
lowering test maxs node = lowering_from (length node) test node maxs 0
