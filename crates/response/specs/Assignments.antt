-- Period assignments (the requirement's points): cost, order, dominance, bounds.
use Rattle.std.specs.Prelude.{Bool, true, false, ◌&&◌, ◌||◌, List, [], ◌∷◌, ℕ, suc, ◌+◌, ◌-◌, ◌*◌, eqb, ltb, leb}
use Rattle.plan.specs.declared.tasks.Task.{Task}
use Rattle.plan.specs.Tasks.{between}

-- "Its cost is the sum of w_i × x_i."
abbrev pub cost : List ℕ → List ℕ → ℕ
cost [] xs = 0
cost (w ∷ ws) [] = 0
cost (w ∷ ws) (x ∷ xs) = w * x + cost ws xs

-- "by first period, then second, and so on"; a list that ends comes before a longer one, so that the order is total on
-- all lists
abbrev pub before : List ℕ → List ℕ → Bool
before [] [] = false
before [] (y ∷ ys) = true
before (x ∷ xs) [] = false
before (x ∷ xs) (y ∷ ys) = ltb x y || (eqb x y && before xs ys)

-- "Points are ordered by cost, then by first period, then second, and so on"
abbrev pub by_cost : ℕ → ℕ → List ℕ → List ℕ → Bool
by_cost a b xs ys = ltb a b || (eqb a b && before xs ys)

abbrev pub less : List ℕ → List ℕ → List ℕ → Bool
less ws xs ys = by_cost (cost ws xs) (cost ws ys) xs ys

-- "One point covers another if each of its periods is at least the other's."
abbrev pub dominates : List ℕ → List ℕ → Bool
dominates [] ys = true
dominates (x ∷ xs) [] = true
dominates (x ∷ xs) (y ∷ ys) = leb y x && dominates xs ys

-- "A point x gives each job a period x_i from lo_i to hi_i."
abbrev pub within_bounds : List Task → List ℕ → Bool
within_bounds [] [] = true
within_bounds [] (x ∷ xs) = false
within_bounds (t ∷ ts) [] = false
within_bounds (t ∷ ts) (x ∷ xs) = between t.period_min x t.period_max && within_bounds ts xs

-- "The points within the bounds number the product of all (hi_i − lo_i + 1)."
abbrev pub assignment_count : List Task → ℕ
assignment_count [] = 1
assignment_count (t ∷ ts) = (suc t.period_max - t.period_min) * assignment_count ts
