-- The step rule, once, over what a round does to a node and over a state that rounds carry along.
use Rattle.std.specs.Prelude.{Bool, true, false, List, [], ◌++◌, ℕ, zero, suc, ltb, length}
use Rattle.response.specs.Assignments.{cost}
use Rattle.optimizer.specs.Nodes.{least_of, without, kept}

pub record Rule : Type 1 where
  pub State : Type 0
  pub weights : List ℕ
  -- whether a node is the answer; else the state after it, and its children before any is dropped
  pub answers : State → List ℕ → Bool
  pub after : State → List ℕ → State
  pub children : State → List ℕ → List (List ℕ)

-- how a search ends: 0 with the answer, 33 or 34 with a bound
pub record End (S : Type 0) : Type 0 where
  pub number : ℕ
  pub periods : List ℕ
  pub rounds : ℕ
  pub bound : ℕ
  pub state : S

abbrev pub ended : {S : Type 0} → ℕ → List ℕ → ℕ → ℕ → S → End S
ended n xs r b s = record { number = n; periods = xs; rounds = r; bound = b; state = s }

module _ (R : Rule) where
  abbrev pub least : List (List ℕ) → List ℕ
  least nodes = least_of R.weights nodes

  -- the open nodes after a round: those that stay, and the children that are not dropped
  abbrev pub rest : List (List ℕ) → List (List ℕ)
  rest nodes = without (least nodes) nodes

  abbrev pub next : R.State → List (List ℕ) → List (List ℕ)
  next s nodes = rest nodes ++ kept (R.children s (least nodes)) (rest nodes)

  -- "While rounds are below the budget, one round": left is what the budget leaves.
  -- 1 "Take the least corner L off the list"; 2 "If L is on time, it is the answer"; 3, 4 its children;
  -- 5 "If listed corners and remaining children together exceed the space, stop with 34 and bound cost(L). Else list
  -- them." "With rounds equal to the budget, stop with 33; bound is the cost of the least listed corner." (No open node
  -- at all never comes.)
  unfoldable pub search_from : ℕ → ℕ → ℕ → R.State → List (List ℕ) → End R.State
  search_from zero room rounds s nodes = ended 33 [] rounds (cost R.weights (least nodes)) s
  search_from (suc left) room rounds s nodes =
      elim (R.answers s (least nodes)) [
        | true ↦ ended 0 (least nodes) (suc rounds) 0 s
        | false ↦ elim (ltb room (length (next s nodes))) [
          | true ↦ ended 34 [] (suc rounds) (cost R.weights (least nodes)) (R.after s (least nodes))
          | false ↦ search_from left room (suc rounds) (R.after s (least nodes)) (next s nodes)
        ]
      ]
