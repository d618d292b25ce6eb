-- Open nodes (the requirement's corners on the list): period assignments, whose order of listing does not matter.
use Rattle.std.specs.Prelude.{◌≡◌, Bool, false, ◌||◌, cond, List, [], ◌∷◌, ℕ, ◌+◌}
use Rattle.plan.specs.Lists.{same}
use Rattle.response.specs.Assignments.{less, dominates}

-- "least" in the order of assignments
abbrev pub least_from : List ℕ → List ℕ → List (List ℕ) → List ℕ
least_from ws p [] = p
least_from ws p (q ∷ qs) = least_from ws (cond (less ws q p) q p) qs

unfoldable pub least_of : List ℕ → List (List ℕ) → List ℕ
least_of ws [] = []
least_of ws (p ∷ ps) = least_from ws p ps

-- "Take the least corner L off the list": one node less
abbrev pub without : List ℕ → List (List ℕ) → List (List ℕ)
without p [] = []
without p (q ∷ qs) = cond (same p q) qs (q ∷ without p qs)

-- "A child that covers a corner still listed is dropped."
abbrev pub dominates_some : List ℕ → List (List ℕ) → Bool
dominates_some c [] = false
dominates_some c (q ∷ qs) = dominates c q || dominates_some c qs

abbrev pub kept : List (List ℕ) → List (List ℕ) → List (List ℕ)
kept [] nodes = []
kept (c ∷ cs) nodes = cond (dominates_some c nodes) (kept cs nodes) (c ∷ kept cs nodes)

-- the open nodes as a multiset: how often each is listed
abbrev pub occurrences : List ℕ → List (List ℕ) → ℕ
occurrences p [] = 0
occurrences p (q ∷ qs) = cond (same p q) 1 0 + occurrences p qs

abbrev pub SameNodes : List (List ℕ) → List (List ℕ) → Type 0
SameNodes ps qs = (p : List ℕ) → occurrences p ps ≡ occurrences p qs
