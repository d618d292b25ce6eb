-- The least node taken off the open ones: what the functions of a round ask of it, and how the round goes, whatever the incumbent.
use mathlib.Core.Path.{◌≡◌, sym, ap, ◌∙◌}
use mathlib.Core.Bool.{true, false}
use mathlib.Core.List.{List}
use Prim.Native.Nat.{ℕ, ◌≤◌}
use lib.ListN.{length, length-map}
use borrow.Author.Tests.{leb-true, leb-false}
use Rattle.std.specs.Prelude.{Bool}
use Rattle.plan.specs.declared.tasks.Task.{Task}
use Rattle.plan.specs.Tasks.{max_tasks, AllValid, period_maxs, weights}
use Rattle.response.specs.Analysis.{schedulable}
use Rattle.response.specs.Inner.{Limits}
use Rattle.response.proofs.Bounds.{Within, within-true}
use Rattle.response.proofs.Ranges.{limits-within}
use Rattle.boundary.specs.declared.node.Node.{Node}
use Rattle.boundary.specs.Mua.{mua}
use Rattle.boundary.specs.Raising.{Unschedulable}
use Rattle.boundary.proofs.Maximal.{mua-fails}
use Rattle.optimizer.specs.declared.nodes.OpenNodes.{OpenNodes}
use Rattle.optimizer.specs.declared.round.Step.{Step}
use Rattle.optimizer.specs.declared.round.Step.TheVariants.{Answered, Listed, Full}
use Rattle.optimizer.specs.Nodes.{least_of, without, occurrences, SameNodes}
use Rattle.optimizer.specs.Rule.{next}
use Rattle.optimizer.specs.Search.{children, rule}
use Rattle.optimizer.specs.Inner.{open_nodes, SameSpace, Taken, Expands, expanded, Lists, Goes, Rounds, Ready}
use Rattle.optimizer.proofs.Multiset.{same_length, same-expanded}

-- a round of tasks in which the least of the open nodes was taken: x, which leaves the others
pub record Took (ts : List Task) (old others : OpenNodes) (x : Node) : Type 0 where
  pub valid : AllValid ts
  pub few : length ts ≤ max_tasks
  pub ready : Ready ts old
  pub space : SameSpace old others
  pub taken : Taken old others x

module _ {ts : List Task} {old others : OpenNodes} {x : Node} (k : Took ts old others x) where
  abbrev listed : List (List ℕ)
  listed = open_nodes old

  abbrev p : List ℕ
  p = x.periods.items

  node-within : Within ts p
  node-within = within-true ts p (rw k.taken.least k.ready.bounded)

  pub node-limits : Limits ts p
  node-limits = limits-within ts k.valid node-within k.few

  round_is : {new : OpenNodes} {step : Step} → ((i : List ℕ) → Goes (rule ts (schedulable ts)) i old.room listed (open_nodes new) step)
      → (i : List ℕ) → Rounds (rule ts (schedulable ts)) i old new (record { step = step; node = x })
  round_is g i = record {
    node = rw (← k.ready.weights) k.taken.least;
    costs = rw (← k.ready.weights) k.taken.costs;
    goes = g i;
  }

  least_is : p ≡ least_of (weights ts) listed
  least_is = rw (← k.ready.weights) k.taken.least

  pub round-answered : schedulable ts p ≡ true
      → (i : List ℕ) → Rounds (rule ts (schedulable ts)) i old others (record { step = Answered; node = x })
  round-answered e = round_is (λ i. rw (← least_is) e)

  module _ (e : schedulable ts p ≡ false) where
    abbrev u : List ℕ
    u = mua (schedulable ts) (period_maxs ts) p

    pub node-fails : Unschedulable ts p
    node-fails = record { limits = node-limits; high = node-within.high; fails = e }

    pub node-expands : Expands others p u × (length p ≡ length ts)
    node-expands =
        let f = mua-fails (schedulable ts) node-within e in (
          record {
            sized = rw (k.space.weights, k.ready.weights) (node-within.sized ∙ sym (length-map ts (λ t. t.weight)));
            above = record { sized = f.within.sized ∙ sym node-within.sized; above = f.above };
          },
          node-within.sized,
        )

    -- the open nodes beside it, with its children that are kept, are those that come next by the rule
    same_next : (i : List ℕ) → SameNodes (expanded (period_maxs ts) p u (open_nodes others)) (next (rule ts (schedulable ts)) i listed)
    unfolding children
    same_next i =
        rw (← least_is)
        (same-expanded (children (schedulable ts) (period_maxs ts) p) (open_nodes others) (without p listed)
        (rw (← k.taken.least) at k.taken.rest))

    module _ {new : OpenNodes} {room : Bool} (y : Lists (period_maxs ts) p u others new room) where
      goes-listed : room ≡ true → (i : List ℕ) → Goes (rule ts (schedulable ts)) i old.room listed (open_nodes new) Listed
      goes-listed b i =
          let now = y.listed b in
          let fits = leb-true _ _ (sym y.room ∙ b) in
          (rw least_is at e, (rw (now, ← k.space.room) fits, λ q. ap (occurrences q) now ∙ same_next i q))

      goes-full : room ≡ false → (i : List ℕ) → Goes (rule ts (schedulable ts)) i old.room listed (open_nodes new) Full
      goes-full b i =
          (rw least_is at e, rw (← same_length _ _ (same_next i), ← k.space.room) (leb-false _ _ (sym y.room ∙ b)))

      pub round-listed : room ≡ true
          → (i : List ℕ) → Rounds (rule ts (schedulable ts)) i old new (record { step = Listed; node = x })
      round-listed b = round_is (goes-listed b)

      pub round-full : room ≡ false
          → (i : List ℕ) → Rounds (rule ts (schedulable ts)) i old new (record { step = Full; node = x })
      round-full b = round_is (goes-full b)
