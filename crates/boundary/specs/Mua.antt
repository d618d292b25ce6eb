-- The maximal unschedulable assignment of a node (the requirement's wall), over a time test and the greatest periods.
use Rattle.std.specs.Prelude.{Bool, true, false, List, ℕ, zero, suc, ◌-◌, length, get_or, set}

-- "raise U_i to the greatest value up to hi_i that leaves the point not on time": values v, v - 1, ..
abbrev pub raised_from : ℕ → (List ℕ → Bool) → List ℕ → ℕ → ℕ → List ℕ
raised_from zero test u i v = u
raised_from (suc left) test u i v =
    elim (test (set u i v)) [ true ↦ raised_from left test u i (v - 1) | false ↦ set u i v ]

abbrev pub raised : (List ℕ → Bool) → List ℕ → List ℕ → ℕ → List ℕ
raised test maxs u i = raised_from (suc (get_or maxs i 0 - get_or u i 0)) test u i (get_or maxs i 0)

-- "start at L; for jobs 1 to n in turn"
abbrev pub mua_from : ℕ → (List ℕ → Bool) → List ℕ → List ℕ → ℕ → List ℕ
mua_from zero test maxs u i = u
mua_from (suc left) test maxs u i = mua_from left test maxs (raised test maxs u i) (suc i)

unfoldable pub mua : (List ℕ → Bool) → List ℕ → List ℕ → List ℕ
mua test maxs node = mua_from (length node) test maxs node 0
