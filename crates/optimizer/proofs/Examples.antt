-- The published examples of the search, computed from the bytes of their files.
use mathlib.Core.Path.{◌≡◌, refl, ap, ◌∙◌}
use mathlib.Core.Bool.{Bool, true, false, not}
use mathlib.Core.List.{List, [], ◌∷◌}
use Prim.Native.Nat.{ℕ, zero, suc}
use native.Mathlib.Omega.{arith}
use lib.ListN.{length}
use Rattle.std.specs.Prelude.{cond}
use Rattle.plan.specs.declared.faults.Fault.{Fault}
use Rattle.plan.specs.declared.tasks.Task.{Task}
use Rattle.plan.specs.Words.{value_of, bytes_of, words_of}
use Rattle.plan.specs.Canonical.{header_bytes, canonical}
use Rattle.plan.specs.Faults.{none, fault, fault_if, passed, or_else, first_from}
use Rattle.plan.specs.Tasks.{period_maxs, weights}
use Rattle.plan.specs.Files.{file_fault, tasks_of}
use Rattle.plan.proofs.Accepted.{accepted-valid}
use Rattle.plan.proofs.Samples.{variant_p, plan_p}
use Rattle.response.specs.Analysis.{demand, climb_from, busy_period, schedulable, slack_list, first_missed}
use Rattle.response.specs.Assignments.{cost, less}
use Rattle.response.specs.Inner.{busy_in_time}
use Rattle.response.proofs.Slack.{meets-responds, misses-none}
use Rattle.response.proofs.Missed.{first_missed-is}
use Rattle.response.proofs.Early.{in_time, schedulable-early}
use Rattle.boundary.specs.Mua.{mua}
use Rattle.boundary.specs.Lowering.{lowering}
use Rattle.optimizer.specs.Nodes.{least_of}
use Rattle.optimizer.specs.Rule.{Rule, least, next, search_from}
use Rattle.optimizer.specs.Search.{children, rule, start, search_by}
use Rattle.optimizer.specs.Promises.{call_fault, alone_fault, infeasible_fault, room_of, Outcome, refused, searched, outcome_of, outcome}

abbrev answered : List ℕ → ℕ → ℕ → Outcome
answered xs total rounds = record { answer = record { fault = none; cost = total; rounds = rounds; bound = 0 }; periods = xs }

-- with the incumbent and its cost
abbrev stopped : ℕ → ℕ → ℕ → List ℕ → ℕ → Outcome
stopped number bound rounds xs total =
    record { answer = record { fault = fault number 0; cost = total; rounds = rounds; bound = bound }; periods = xs }

-- the nodes taken off the list, up to the answer
abbrev taken_from : (R : Rule) → ℕ → R.State → List (List ℕ) → List (List ℕ)
taken_from R zero s nodes = []
taken_from R (suc left) s nodes =
    least R nodes
    ∷ elim (R.answers s (least R nodes)) [ true ↦ [] | false ↦ taken_from R left (R.after s (least R nodes)) (next R s nodes) ]

abbrev taken : List ℕ → List (List ℕ)
taken s = let ts = tasks_of s in taken_from (rule ts (schedulable ts)) 100000 (period_maxs ts) (start ts)

-- with a space of two numbers for the periods, and an ample work space
abbrev ample : List ℕ → ℕ → Outcome
ample s budget = outcome s budget 2 16000

pub record Published : Type 0 where
  -- "P: answer (2,4), cost 6, rounds 4; (3,3) costs 6 too and comes later. Corners taken: (1,1), (1,3), (1,4), (2,4)."
  pub answer : ample plan_p 100000 ≡ answered (2 ∷ 4 ∷ []) 6 4
  pub tie_met : schedulable (tasks_of plan_p) (3 ∷ 3 ∷ []) ≡ true
  pub tie_cost : cost (weights (tasks_of plan_p)) (3 ∷ 3 ∷ []) ≡ 6
  pub tie_later : less (weights (tasks_of plan_p)) (2 ∷ 4 ∷ []) (3 ∷ 3 ∷ []) ≡ true
  pub nodes_taken : taken plan_p ≡ (1 ∷ 1 ∷ []) ∷ (1 ∷ 3 ∷ []) ∷ (1 ∷ 4 ∷ []) ∷ (2 ∷ 4 ∷ []) ∷ []
  -- "P, weights 1 and 3: (3,3), cost 12, rounds 3. P, radio's cap 3: (3,3), cost 6, rounds 3."
  pub weights13 : ample (variant_p 6 1000 3) 100000 ≡ answered (3 ∷ 3 ∷ []) 12 3
  pub cap3 : ample (variant_p 6 3 1) 100000 ≡ answered (3 ∷ 3 ∷ []) 6 3
  -- "P, budget 3: 33, bound 6. Budget 0: bound 2; 1: bound 4; 2: bound 5."; the incumbent is the longest periods, then
  -- the lowering of (1,1), which none undercuts
  pub budget3 : ample plan_p 3 ≡ stopped 33 6 3 (2 ∷ 4 ∷ []) 6
  pub budget0 : ample plan_p 0 ≡ stopped 33 2 0 (6 ∷ 8 ∷ []) 14
  pub budget1 : ample plan_p 1 ≡ stopped 33 4 1 (2 ∷ 4 ∷ []) 6
  pub budget2 : ample plan_p 2 ≡ stopped 33 5 2 (2 ∷ 4 ∷ []) 6
  -- "P, work space of 2 numbers, budget 9: 34, bound 4, rounds 2."
  pub space2 : outcome plan_p 9 2 2 ≡ stopped 34 4 2 (2 ∷ 4 ∷ []) 6
  -- "P with gauge's bounds 1 to 1: 32, place 2."
  pub gauge1 : ample (variant_p 1 1000 1) 100000 ≡ refused (fault 32 2)

-- The time test goes up to 2,000,000 for a task that misses its deadline; left past the deadline it computes.
module _ (s : List ℕ) where
  abbrev tasks : List Task
  tasks = tasks_of s

  by-early : {A : Type 0} (f : (List ℕ → Bool) → A) {x : A} → f (in_time tasks) ≡ x → f (schedulable tasks) ≡ x
  by-early f e = ap f (schedulable-early tasks (accepted-valid s)) ∙ e

  -- what an outcome is made of, by a test
  abbrev infeasible_by : (List ℕ → Bool) → Fault
  infeasible_by test =
      let none = fault_if (not (test (period_maxs tasks))) 32 (first_missed (slack_list tasks (period_maxs tasks))) in
      or_else (first_from (alone_fault tasks) (length tasks) 0) none

  abbrev outcome_by : ℕ → ℕ → ℕ → (List ℕ → Bool) → Outcome
  outcome_by budget space work test =
      let call = call_fault (file_fault s) tasks space work in
      let infeasible = infeasible_by test in
      let x = searched (weights tasks) (search_by tasks test budget (room_of tasks work)) in
      cond (passed call) (cond (passed infeasible) x (refused infeasible)) (refused call)

  outcome-is : (budget space work : ℕ) {x : Outcome} → outcome_by budget space work (in_time tasks) ≡ x
      → outcome s budget space work ≡ x
  unfolding outcome_of infeasible_fault
  outcome-is budget space work = by-early (outcome_by budget space work)

-- 32: radio misses its deadline at the longest periods
abbrev late : List ℕ
late = variant_p 1 1000 1

record Late : Type 0 where
  two : length (tasks late) ≡ 2
  longest : period_maxs (tasks late) ≡ 1 ∷ 8 ∷ []
  gauge : busy_in_time (tasks late) (1 ∷ 8 ∷ []) 0 ≡ 1
  radio : busy_in_time (tasks late) (1 ∷ 8 ∷ []) 1 ≡ 0

computed : Late
unfolding value_of bytes_of words_of header_bytes canonical first_from file_fault tasks_of demand climb_from busy_period
computed = record { two = refl; longest = refl; gauge = refl; radio = refl }

-- its slack is not computed
by-place : outcome_by late 100000 2 16000 (in_time (tasks late))
    ≡ refused (fault 32 (first_missed (slack_list (tasks late) (period_maxs (tasks late)))))
unfolding value_of bytes_of words_of header_bytes canonical first_from file_fault tasks_of demand climb_from busy_period call_fault
by-place = refl

first-late : first_missed (slack_list (tasks late) (period_maxs (tasks late))) ≡ 2
first-late =
    let valid = accepted-valid late in
    let c = computed in
    rw c.longest
    (first_missed-is (tasks late) (1 ∷ 8 ∷ []) 1 (record {
      below = omega (arith, c.two);
      misses = misses-none (tasks late) (1 ∷ 8 ∷ []) 1 (valid 1 (omega (arith, c.two))) c.radio;
      above = λ j l. let e : j ≡ 0 = omega arith in
          rw e (meets-responds (tasks late) (1 ∷ 8 ∷ []) 0 (valid 0 (omega (arith, c.two))) (omega (arith, c.gauge)));
    }))

pub published : Published
unfolding value_of bytes_of words_of header_bytes canonical first_from file_fault tasks_of demand climb_from busy_period least_of search_from
    mua children lowering call_fault
published = record {
  answer = outcome-is plan_p 100000 2 16000 refl;
  tie_met = by-early plan_p (λ test. test (3 ∷ 3 ∷ [])) refl;
  tie_cost = refl;
  tie_later = refl;
  nodes_taken = by-early plan_p (λ test. taken_from (rule (tasks plan_p) test) 100000 (period_maxs (tasks plan_p)) (start (tasks plan_p))) refl;
  weights13 = outcome-is (variant_p 6 1000 3) 100000 2 16000 refl;
  cap3 = outcome-is (variant_p 6 3 1) 100000 2 16000 refl;
  budget3 = outcome-is plan_p 3 2 16000 refl;
  budget0 = outcome-is plan_p 0 2 16000 refl;
  budget1 = outcome-is plan_p 1 2 16000 refl;
  budget2 = outcome-is plan_p 2 2 16000 refl;
  space2 = outcome-is plan_p 9 2 2 refl;
  gauge1 = outcome-is late 100000 2 16000 by-place ∙ ap (λ (place : ℕ). refused (fault 32 place)) first-late;
}
