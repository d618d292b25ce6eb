-- CHEAPEST's rule: the children of a node, the incumbent that rounds carry along, and the search.
use Rattle.std.specs.Prelude.{Bool, true, false, cond, List, [], ◌∷◌, ℕ, zero, suc, ltb, length, get_or, set}
use Rattle.plan.specs.declared.tasks.Task.{Task}
use Rattle.plan.specs.Tasks.{period_mins, period_maxs, weights}
use Rattle.response.specs.Analysis.{schedulable}
use Rattle.response.specs.Assignments.{less}
use Rattle.boundary.specs.Mua.{mua}
use Rattle.boundary.specs.Lowering.{lowering}
use Rattle.optimizer.specs.Rule.{Rule, End, search_from}

-- "For each i with U_i below hi_i, a child is L with its i-th period set to U_i + 1."
abbrev pub child : List ℕ → List ℕ → ℕ → List ℕ
child node u i = set node i (suc (get_or u i 0))

abbrev pub children_from : ℕ → List ℕ → List ℕ → List ℕ → ℕ → List (List ℕ)
children_from zero maxs node u i = []
children_from (suc left) maxs node u i =
    elim (ltb (get_or u i 0) (get_or maxs i 0)) [
      | true ↦ child node u i ∷ children_from left maxs node u (suc i)
      | false ↦ children_from left maxs node u (suc i)
    ]

unfoldable pub children : (List ℕ → Bool) → List ℕ → List ℕ → List (List ℕ)
children test maxs node = children_from (length node) maxs node (mua test maxs node) 0

-- the incumbent (the requirement's best) after a round whose node is unschedulable: "The result becomes the best if it
-- is less"
abbrev pub improved : List Task → (List ℕ → Bool) → List ℕ → List ℕ → List ℕ
improved ts test incumbent node =
    let x = lowering test (period_maxs ts) node in cond (less (weights ts) x incumbent) x incumbent

-- of tasks, under a time test, with the incumbent as its state: neither what is answered nor a child reads it
abbrev pub rule : List Task → (List ℕ → Bool) → Rule
rule ts test = record {
  State = List ℕ;
  weights = weights ts;
  answers = λ incumbent node. test node;
  after = improved ts test;
  children = λ incumbent node. children test (period_maxs ts) node;
}

-- "The list starts with the point of all low bounds."
abbrev pub start : List Task → List (List ℕ)
start ts = period_mins ts ∷ []

-- the incumbent "starts as the point of all high bounds"
abbrev pub search_by : List Task → (List ℕ → Bool) → ℕ → ℕ → End (List ℕ)
search_by ts test budget room = search_from (rule ts test) budget room 0 (period_maxs ts) (start ts)

abbrev pub search : List Task → ℕ → ℕ → End (List ℕ)
search ts budget room = search_by ts (schedulable ts) budget room
