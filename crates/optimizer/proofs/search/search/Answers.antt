use Rattle.std.proofs.Common.{◌≡◌, ℕ, List, arith, rules, suc, sym, length, ◌+◌, ◌-◌, ◌≤◌, subst, ◌∙◌}
use Rattle.plan.specs.declared.tasks.Task.{Task}
use Rattle.plan.specs.Promises.{plan_tasks}
use Rattle.boundary.specs.declared.node.Node.{Node}
use Rattle.optimizer.specs.declared.nodes.OpenNodes.{OpenNodes}
use Rattle.optimizer.specs.declared.round.Step.TheVariants.{Answered, Listed, Full}
use Rattle.optimizer.specs.Rule.{End}
use Rattle.optimizer.specs.Search.{search as end_of}
use Rattle.optimizer.specs.Promises.{room_of}
use Rattle.optimizer.proofs.Searching.{Searching, searches, searching-ready, incumbent-sized, node-sized, searching-answered}
use Rattle.optimizer.proofs.Searching.{searching-improves, searching-full, improved-sized, searching-on, searching-spent}
use Rattle.optimizer.proofs.search.search.Goals as goal
use Rattle.optimizer.proofs.search.search.Goals.{Left-loop-rounds, else-loop-rounds-test}
use Rattle.optimizer.proofs.search.search.Goals.{then-loop-rounds-test+else-eq+else-eq-2+else-rounds-budget}

-- round n comes after n - 1 others
after : {n : ℕ} → 1 ≤ n → n ≡ suc (n - 1)
after h = omega arith

pub loop-rounds-init : goal.loop-rounds-init
loop-rounds-init c = searches c.args.plan.now.valid c.requires c.args.budget c.start-nodes.ensures.starts c.longest-incumbent.ensures

pub run_round-step-requires : goal.run_round-step-requires
run_round-step-requires c = searching-ready c.loop-rounds.invariant

pub answered-requires : goal.answered-requires
answered-requires c =
    let d = c.run_round-step.ensures in
    c.loop-rounds.auto.periods ∙ c.requires.sized
    ∙ sym (node-sized c.loop-rounds.invariant (after (omega arith)) (omega arith) d.same d.rounds)

pub returns-then-eq : goal.returns-then-eq
returns-then-eq c =
    let d = c.run_round-step.ensures in
    let step : c.run_round-step.result.step ≡ Answered = search rules in
    searching-answered c.loop-rounds.invariant (after (omega arith)) (omega arith) d.same d.rounds step
    c.answered.ensures.written c.answered.ensures.is

pub improve-requires : goal.improve-requires
improve-requires c =
    let d = c.run_round-step.ensures in
    searching-improves c.loop-rounds.invariant (after (omega arith)) (omega arith) d.same d.rounds c.requires

pub stopped-requires : goal.stopped-requires
stopped-requires c =
    let d = c.run_round-step.ensures in
    let step : c.run_round-step.result.step ≡ Full = search rules in
    c.loop-rounds.auto.periods ∙ c.requires.sized
    ∙ sym (improved-sized c.loop-rounds.invariant (after (omega arith)) (omega arith) d.same d.rounds c.improve.ensures step)

pub returns-then-eq-2 : goal.returns-then-eq-2
returns-then-eq-2 c =
    let d = c.run_round-step.ensures in
    let step : c.run_round-step.result.step ≡ Full = search rules in
    searching-full c.loop-rounds.invariant (after (omega arith)) (omega arith) d.same d.rounds c.improve.ensures step
    c.stopped.ensures.written c.stopped.ensures.is

pub loop-rounds-preserved : goal.loop-rounds-preserved
loop-rounds-preserved c =
    let d = c.run_round-step.ensures in
    let step : c.run_round-step.result.step ≡ Listed = search rules in
    let e : c.loop-rounds.rounds + 1 - 1 ≡ c.loop-rounds.rounds = omega arith in
    rw e (searching-on c.loop-rounds.invariant (after (omega arith)) (omega arith) d.same d.rounds c.improve.ensures step)

-- after the last round
last : {ts : List Task} {goal : End (List ℕ)} {budget : ℕ} {nodes nodes' : OpenNodes} {incumbent incumbent' : Node} {rounds : ℕ}
    → Searching ts goal budget nodes incumbent rounds → rounds ≡ budget → nodes' ≡ nodes → incumbent' ≡ incumbent
    → Searching ts goal budget nodes' incumbent' budget
last {ts} {goal} {budget} {nodes} {nodes'} {incumbent} g e en ei =
    rw (en, ei) (subst (λ (n : ℕ). Searching ts goal budget nodes incumbent n) e g)

left : (c : Left-loop-rounds) → let ts = plan_tasks c.args.plan.now in
    Searching ts (end_of ts c.args.budget (room_of ts (length c.args.work.now))) c.args.budget
    c.loop-rounds-test.nodes c.loop-rounds-test.incumbent c.args.budget
left c = elim c.loop-rounds-test.branch [
  | else-loop-rounds-test w ↦ last c.loop-rounds.invariant (omega arith) w.nodes-is w.incumbent-is
  | then-loop-rounds-test+else-eq+else-eq-2+else-rounds-budget w ↦
      let d = w.run_round-step.ensures in
      let step : w.run_round-step.result.step ≡ Listed = search rules in
      last (searching-on c.loop-rounds.invariant (after (omega arith)) (omega arith) d.same d.rounds w.improve.ensures step)
      (omega arith) w.nodes-is w.incumbent-is
]

pub stopped-requires-2 : goal.stopped-requires-2
stopped-requires-2 c =
    c.loop-rounds.auto.periods ∙ c.requires.sized ∙ sym (incumbent-sized (left (goal.at.stopped-requires-2 c).Left-loop-rounds))

pub least-requires : goal.least-requires
least-requires c = (searching-ready (left (goal.at.least-requires c).Left-loop-rounds)).some

pub returns : goal.returns
returns c =
    searching-spent (left (goal.at.returns c).Left-loop-rounds) (omega arith) c.stopped-2.ensures.written c.least.ensures.costs
    c.stopped-2.ensures.is
