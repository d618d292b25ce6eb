-- The search with its incumbent: how it begins and goes on, and how each way out ends it.
use mathlib.Core.Path.{◌≡◌, ◌∙◌, subst}
use mathlib.Core.List.{List}
use Prim.Native.Nat.{ℕ, suc, ◌≤◌}
use native.Mathlib.Omega.{arith}
use lib.ListN.{length}
use Rattle.plan.specs.declared.tasks.Task.{Task}
use Rattle.plan.specs.Tasks.{AllValid, period_maxs, weights}
use Rattle.response.specs.Analysis.{schedulable}
use Rattle.response.specs.Assignments.{cost}
use Rattle.response.proofs.Bounds.{true-within}
use Rattle.boundary.specs.declared.node.Node.{Node}
use Rattle.optimizer.specs.declared.conclusion.Conclusion.{Conclusion}
use Rattle.optimizer.specs.declared.conclusion.Conclusion.TheVariants.{Answered, Stopped}
use Rattle.optimizer.specs.declared.conclusion.Stop.TheVariants.{Budget, Room}
use Rattle.optimizer.specs.declared.nodes.OpenNodes.{OpenNodes}
use Rattle.optimizer.specs.declared.round.Step.TheVariants.{Answered as Answers, Listed, Full}
use Rattle.optimizer.specs.declared.round.Round.{Round}
use Rattle.optimizer.specs.Answers.{conclusion_answer}
use Rattle.optimizer.specs.Nodes.{least_of}
use Rattle.optimizer.specs.Rule.{Rule, End, least}
use Rattle.optimizer.specs.Search.{rule, improved, search}
use Rattle.optimizer.specs.Promises.{room_of, searched}
use Rattle.optimizer.specs.Inner.{open_nodes, least_open, SameSpace, Starts, Rounds, Ready, Searchable, Ends}
use Rattle.optimizer.specs.Inner.{IsIncumbent, IsLongest, Improvable}
use Rattle.optimizer.proofs.Settled.{sound}
use Rattle.optimizer.proofs.Improving.{Incumbent, incumbent-first, lawful}
use Rattle.optimizer.proofs.Optimal.{carried-next}
use Rattle.optimizer.proofs.Running.{running-within, running-spent, running-answered, running-full}
use Rattle.optimizer.proofs.Looping.{Looping, begins, ready, goes_on}

-- the incumbent is what the rule carries along, with its cost
pub record Searching (ts : List Task) (goal : End (List ℕ)) (budget : ℕ) (nodes : OpenNodes) (incumbent : Node) (rounds : ℕ) : Type 0 where
  pub looping : Looping ts (schedulable ts) (rule ts (schedulable ts)) (Incumbent ts (schedulable ts)) goal budget
      incumbent.periods.items nodes rounds
  pub costs : incumbent.cost ≡ cost (weights ts) incumbent.periods.items
  pub upto : rounds ≤ budget

pub searches : {ts : List Task} → AllValid ts → {o w : List ℕ} → Searchable ts o w → (budget : ℕ) {nodes : OpenNodes}
    → Starts ts (length w) nodes → {incumbent : Node} → IsLongest ts incumbent
    → Searching ts (search ts budget (room_of ts (length w))) budget nodes incumbent 0
searches {ts} v {o} {w} g budget b i =
    let s = sound v in record {
      looping = rw i.periods (begins (lawful s g.top) (period_maxs ts) (incumbent-first s g.top) budget (length w) b);
      costs = rw i.periods i.costs;
      upto = omega arith;
    }

module _ {ts : List Task} {goal : End (List ℕ)} {budget : ℕ} {nodes : OpenNodes} {incumbent : Node} {rounds : ℕ}
    (g : Searching ts goal budget nodes incumbent rounds) where
  abbrev R : Rule
  R = rule ts (schedulable ts)

  abbrev l : List ℕ
  l = least R (open_nodes nodes)

  pub searching-ready : Ready ts nodes
  searching-ready = ready g.looping

  pub incumbent-sized : length incumbent.periods.items ≡ length ts
  incumbent-sized = g.looping.running.carried.within.sized

  pub searching-spent : budget ≤ rounds → {p : List ℕ} → p ≡ incumbent.periods.items
      → {b : ℕ} → b ≡ cost nodes.weights.items (least_open nodes)
      → {c : Conclusion} → c ≡ Stopped Budget incumbent.cost rounds b → Ends (searched (weights ts) goal) p (conclusion_answer c)
  searching-spent h ep {b} eb ec =
      let bound = subst (λ (ws : List ℕ). b ≡ cost ws (least_of ws (open_nodes nodes))) g.looping.weights eb in
      rw (running-spent g.looping.running h) (record { answer = rw (ec, bound, g.costs); periods = ep })

  -- round n
  module _ {n : ℕ} (en : n ≡ suc rounds) (h : n ≤ budget) {nodes' : OpenNodes} {d : Round} (s : SameSpace nodes nodes')
      (x : (i : List ℕ) → Rounds R i nodes nodes' d) where
    abbrev y : Rounds R incumbent.periods.items nodes nodes' d
    y = x incumbent.periods.items

    pub node-sized : length d.node.periods.items ≡ length ts
    node-sized = rw y.node (running-within g.looping.running).sized

    pub searching-answered : d.step ≡ Answers → {p : List ℕ} → p ≡ d.node.periods.items
        → {c : Conclusion} → c ≡ Answered d.node.cost n → Ends (searched (weights ts) goal) p (conclusion_answer c)
    searching-answered e ep ec =
        rw (running-answered g.looping.running (omega arith) (open_nodes nodes') (rw e at y.goes))
        (record { answer = rw (ec, y.costs, en); periods = ep ∙ y.node })

    pub searching-improves : {o w : List ℕ} → Searchable ts o w → Improvable ts incumbent d.node
    searching-improves q = record {
      lowers = record {
        bounded = rw y.node (true-within ts l (running-within g.looping.running));
        top = q.top;
      };
      costs = g.costs;
      node-costs = rw y.node y.costs;
    }

    -- and the incumbent after it
    module _ {next : Node} (i : IsIncumbent ts (improved ts (schedulable ts) incumbent.periods.items d.node.periods.items) next) where
      improved-is : next.periods.items ≡ improved ts (schedulable ts) incumbent.periods.items l
      improved-is = rw y.node at i.periods

      improved-costs : next.cost ≡ cost (weights ts) next.periods.items
      improved-costs = rw i.periods i.costs

      pub improved-sized : d.step ≡ Full → length next.periods.items ≡ length ts
      improved-sized e =
          let u = g.looping.running in
          rw improved-is (carried-next u.lawful incumbent.periods.items u.carried u.opened (rw e at y.goes).0).within.sized

      pub searching-full : d.step ≡ Full → {p : List ℕ} → p ≡ next.periods.items
          → {c : Conclusion} → c ≡ Stopped Room next.cost n d.node.cost → Ends (searched (weights ts) goal) p (conclusion_answer c)
      searching-full e ep ec =
          rw (running-full g.looping.running (omega arith) (open_nodes nodes') (rw e at y.goes), ← improved-is)
          (record { answer = rw (ec, improved-costs, y.costs, en); periods = ep })

      pub searching-on : d.step ≡ Listed → Searching ts goal budget nodes' next n
      searching-on e = record {
        looping = rw (en, improved-is) (goes_on g.looping (omega arith) s y e);
        costs = improved-costs;
        upto = h;
      }
