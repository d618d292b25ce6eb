-- What the search by a lawful rule comes to, from its start on.
use mathlib.Core.Path.{◌≡◌}
use mathlib.Core.Bool.{Bool}
use mathlib.Core.List.{List}
use Prim.Native.Nat.{ℕ, ◌≤◌}
use native.Mathlib.Omega.{arith}
use Rattle.plan.specs.declared.tasks.Task.{Task}
use Rattle.response.specs.Assignments.{assignment_count}
use Rattle.optimizer.specs.Rule.{Rule, search_from}
use Rattle.optimizer.specs.Search.{start}
use Rattle.optimizer.proofs.Optimal.{Lawful, Open, open-start, carried-end, Optimal, optimal}
use Rattle.optimizer.proofs.Rounds.{rounds-budget, ahead-all, rounds-few, never-stops}

module _ {ts : List Task} {test : List ℕ → Bool} {R : Rule} {Carried : R.State → Type 0} (𝓛 : Lawful ts test R Carried)
    {s : R.State} (c : Carried s) (budget room : ℕ) where
  opened : Open ts test (start ts)
  opened = open-start ts test 𝓛.ranged

  pub search-optimal : Optimal ts test R.weights (search_from R budget room 0 s (start ts))
  search-optimal = optimal 𝓛 budget room 0 s (start ts) c opened

  pub search-rounds : (search_from R budget room 0 s (start ts)).rounds ≤ assignment_count ts
  search-rounds = omega (arith, rounds-few 𝓛 budget room 0 s (start ts) c opened, ahead-all ts (start ts))

  pub search-answers : assignment_count ts ≤ budget → assignment_count ts ≤ room
      → (search_from R budget room 0 s (start ts)).number ≡ 0
  search-answers b r = never-stops 𝓛 budget room 0 s (start ts) c opened (omega (arith, ahead-all ts (start ts))) r

  -- what the search ends with is still as it should be
  pub search-carried : Carried (search_from R budget room 0 s (start ts)).state
  search-carried = carried-end 𝓛 budget room 0 s (start ts) c opened

pub search-budget : (R : Rule) (budget room : ℕ) (s : R.State) (ps : List (List ℕ)) → (search_from R budget room 0 s ps).rounds ≤ budget
search-budget R budget room s ps = omega (arith, rounds-budget R budget room 0 s ps)
