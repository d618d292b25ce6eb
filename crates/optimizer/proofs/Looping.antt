-- The rounds over the open nodes, by any lawful rule: what holds between rounds, and what a round asks.
use mathlib.Core.Path.{◌≡◌, sym, ap, ◌∙◌}
use mathlib.Core.Bool.{Bool}
use mathlib.Core.List.{List}
use Prim.Native.Nat.{ℕ, suc, ◌<◌}
use native.Mathlib.Omega.{arith}
use lib.ListN.{length}
use Rattle.plan.specs.declared.tasks.Task.{Task}
use Rattle.plan.specs.Tasks.{weights}
use Rattle.response.proofs.Bounds.{true-within}
use Rattle.optimizer.specs.declared.nodes.OpenNodes.{OpenNodes}
use Rattle.optimizer.specs.declared.round.Step.TheVariants.{Listed}
use Rattle.optimizer.specs.declared.round.Round.{Round}
use Rattle.optimizer.specs.Nodes.{least_of}
use Rattle.optimizer.specs.Rule.{Rule, End, least, search_from}
use Rattle.optimizer.specs.Search.{start}
use Rattle.optimizer.specs.Promises.{room_of}
use Rattle.optimizer.specs.Inner.{open_nodes, least_open, SameSpace, Starts, Ready, Rounds}
use Rattle.optimizer.proofs.Space.{length-nodes}
use Rattle.optimizer.proofs.Optimal.{Lawful}
use Rattle.optimizer.proofs.Running.{Running, running-start, running-some, running-within, running-listed}

-- open nodes after so many rounds, with the state s; the search leads to goal
pub record Looping (ts : List Task) (test : List ℕ → Bool) (R : Rule) (Carried : R.State → Type 0) (goal : End R.State)
    (budget : ℕ) (s : R.State) (o : OpenNodes) (rounds : ℕ) : Type 0 where
  pub weights : o.weights.items ≡ weights ts
  pub running : Running ts test R Carried goal budget o.room rounds s (open_nodes o)

module _ {ts : List Task} {test : List ℕ → Bool} {R : Rule} {Carried : R.State → Type 0} where
  pub begins : Lawful ts test R Carried → (s : R.State) → Carried s → (budget work : ℕ) {o : OpenNodes} → Starts ts work o
      → Looping ts test R Carried (search_from R budget (room_of ts work) 0 s (start ts)) budget s o 0
  begins 𝓛 s c budget work b = record {
    weights = b.weights;
    running = rw (b.room, b.start) (running-start 𝓛 s c budget (room_of ts work));
  }

  module _ {goal : End R.State} {budget : ℕ} {s : R.State} {o : OpenNodes} {rounds : ℕ}
      (g : Looping ts test R Carried goal budget s o rounds) where
    least_is : least R (open_nodes o) ≡ least_open o
    least_is = ap (λ (ws : List ℕ). least_of ws (open_nodes o)) (g.running.lawful.weighs ∙ sym g.weights)

    pub ready : Ready ts o
    ready = record {
      some = omega (arith, running-some g.running, length-nodes o.count (length o.weights.items) o.work.now);
      weights = g.weights;
      bounded = rw (← least_is) (true-within ts (least R (open_nodes o)) (running-within g.running));
    }

    pub goes_on : rounds < budget → {o' : OpenNodes} {d : Round} → SameSpace o o' → Rounds R s o o' d → d.step ≡ Listed
        → Looping ts test R Carried goal budget (R.after s (least R (open_nodes o))) o' (suc rounds)
    goes_on h {o'} k y e = record {
      weights = ap (λ w. w.items) k.weights ∙ g.weights;
      running = rw k.room (running-listed g.running h (open_nodes o') (rw e at y.goes));
    }
