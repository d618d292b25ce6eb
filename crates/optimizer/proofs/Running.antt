-- The search by a lawful rule while it runs: the open nodes lead where the search leads. One law for each way that a round goes.
use mathlib.Core.Path.{◌≡◌, refl, sym, ◌∙◌}
use mathlib.Core.Bool.{Bool}
use mathlib.Core.List.{List, []}
use Prim.Native.Nat.{ℕ, suc, ◌-◌, ◌≤◌, ◌<◌}
use native.Mathlib.Nat.{sub-zero}
use native.Mathlib.Omega.{arith}
use lib.ListN.{length}
use Rattle.plan.specs.declared.tasks.Task.{Task}
use Rattle.response.specs.Assignments.{cost}
use Rattle.response.proofs.Bounds.{Within}
use Rattle.optimizer.specs.declared.round.Step.TheVariants.{Answered, Listed, Full}
use Rattle.optimizer.specs.Rule.{Rule, End, ended, least, next, search_from}
use Rattle.optimizer.specs.Search.{start}
use Rattle.optimizer.specs.Inner.{Goes}
use Rattle.optimizer.proofs.Multiset.{same_length}
use Rattle.optimizer.proofs.Steps.{search-same, search-spent, search-answer, search-full, search-on}
use Rattle.optimizer.proofs.Optimal.{Lawful, Open, open-start, open-same, open_next, carried-next, never-empty, least-within}

-- after so many rounds, with the state s and the open nodes ps; the search leads to goal
pub record Running (ts : List Task) (test : List ℕ → Bool) (R : Rule) (Carried : R.State → Type 0) (goal : End R.State)
    (budget room rounds : ℕ) (s : R.State) (ps : List (List ℕ)) : Type 0 where
  pub lawful : Lawful ts test R Carried
  pub carried : Carried s
  pub opened : Open ts test ps
  pub same : search_from R (budget - rounds) room rounds s ps ≡ goal

module _ {ts : List Task} {test : List ℕ → Bool} {R : Rule} {Carried : R.State → Type 0} where
  pub running-start : Lawful ts test R Carried → (s : R.State) → Carried s → (budget room : ℕ)
      → Running ts test R Carried (search_from R budget room 0 s (start ts)) budget room 0 s (start ts)
  running-start 𝓛 s c budget room =
      record { lawful = 𝓛; carried = c; opened = open-start ts test 𝓛.ranged; same = rw (sub-zero budget) refl }

  module _ {goal : End R.State} {budget room rounds : ℕ} {s : R.State} {ps : List (List ℕ)}
      (g : Running ts test R Carried goal budget room rounds s ps) where
    pub running-some : 1 ≤ length ps
    running-some = never-empty g.lawful g.opened

    pub running-within : Within ts (least R ps)
    running-within = least-within g.lawful g.opened

    pub running-spent : budget ≤ rounds → goal ≡ ended 33 [] rounds (cost R.weights (least R ps)) s
    running-spent h = let z : budget - rounds ≡ 0 = omega arith in sym (rw z at g.same) ∙ search-spent R room rounds s ps

    -- a round, and the open nodes that there are then
    module _ (h : rounds < budget) (then : List (List ℕ)) where
      begun : search_from R (suc (budget - suc rounds)) room rounds s ps ≡ goal
      begun = let z : budget - rounds ≡ suc (budget - suc rounds) = omega arith in rw z at g.same

      pub running-answered : Goes R s room ps then Answered → goal ≡ ended 0 (least R ps) (suc rounds) 0 s
      running-answered e = sym begun ∙ search-answer R room rounds s ps (budget - suc rounds) e

      pub running-full : Goes R s room ps then Full
          → goal ≡ ended 34 [] (suc rounds) (cost R.weights (least R ps)) (R.after s (least R ps))
      running-full e = sym begun ∙ search-full R room rounds s ps (budget - suc rounds) e.0 e.1

      pub running-listed : Goes R s room ps then Listed
          → Running ts test R Carried goal budget room (suc rounds) (R.after s (least R ps)) then
      running-listed e =
          let after = R.after s (least R ps) in
          let few : length (next R s ps) ≤ room = omega (arith, same_length then (next R s ps) e.1.1, e.1.0) in
          record {
            lawful = g.lawful;
            carried = carried-next g.lawful s g.carried g.opened e.0;
            opened = open-same (next R s ps) then e.1.1 (open_next g.lawful s g.carried g.opened e.0);
            same = search-same R (budget - suc rounds) room (suc rounds) after then (next R s ps) e.1.1
                ∙ sym (search-on R room rounds s ps (budget - suc rounds) e.0 few) ∙ begun;
          }
