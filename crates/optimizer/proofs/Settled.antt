-- Demand 3 and the incumbent, of the outcome that the definitions give.
use mathlib.Core.Path.{◌≡◌, sym, ap, ◌∙◌}
use mathlib.Core.Bool.{Bool, true, false, not}
use mathlib.Core.Logic.{◌⊎◌, inl, inr}
use mathlib.Core.List.{List}
use Prim.Native.Nat.{ℕ, suc, ◌+◌, ◌≤◌, ◌<◌}
use native.Mathlib.Omega.{arith}
use lib.ListN.{length}
use borrow.Author.Tests.{eq-eqb, ne_eqb, ltb-true, not-false}
use Rattle.plan.specs.declared.tasks.Task.{Task}
use Rattle.plan.specs.declared.faults.Fault.{Fault}
use Rattle.plan.specs.Faults.{first_from}
use Rattle.plan.specs.Tasks.{task_at, AllValid, period_maxs, weights}
use Rattle.plan.proofs.Tests.{bool, eq-or-ne, both}
use Rattle.plan.proofs.Rules.{or-second, or-next, or-here, if-passed, run-some}
use Rattle.response.specs.Analysis.{own_demand, deadline_at, schedulable}
use Rattle.response.specs.Assignments.{cost, within_bounds}
use Rattle.response.proofs.Bounds.{within-true, maxs-within, true-within}
use Rattle.response.proofs.Exactness.{own-some, busy-past}
use Rattle.response.proofs.Slack.{misses-none}
use Rattle.response.proofs.Sustainable.{schedulable-none, schedulable-covers, covers-schedulable}
use Rattle.response.proofs.Ranges.{max-at, ranged, sustainable-within}
use Rattle.optimizer.specs.declared.conclusion.Answer.{Answer}
use Rattle.optimizer.specs.Rule.{End}
use Rattle.optimizer.specs.Search.{rule, start, search}
use Rattle.optimizer.specs.Claims.{Feasible, Infeasible, IsNone, IsStop, Settles, Improves}
use Rattle.optimizer.specs.Promises.{infeasible_alone, alone_fault, none_fault, infeasible_fault, refused, searched}
use Rattle.optimizer.proofs.Optimal.{Lawful, Optimal}
use Rattle.optimizer.proofs.Branching.{Sound}
use Rattle.optimizer.proofs.Improving.{Incumbent, incumbent-first, lawful}
use Rattle.optimizer.proofs.Guarantees.{search-optimal, search-rounds, search-answers, search-carried, search-budget}

pub sound : {ts : List Task} → AllValid ts → Sound ts (schedulable ts)
sound {ts} v = record { ranged = ranged ts v; monotone = λ xs ys w w' m e. sustainable-within ts v w ys m e }

pub of_two : (m : ℕ) {n : ℕ} → (n ≡ m) ⊎ (n ≡ suc m) → (m ≤ n) × (n ≤ suc m)
of_two m k = elim k [ inl e ↦ (omega arith, omega arith) | inr e ↦ (omega arith, omega arith) ]

-- 31 and 32
module _ (ts : List Task) where
  abbrev longest : Bool
  longest = schedulable ts (period_maxs ts)

  abbrev pub alone : Fault
  alone = first_from (alone_fault ts) (length ts) 0

  alone-number : AllValid ts → (i : ℕ) → ((alone_fault ts i).number ≡ 0 → ⊥) → i < length ts
      → ((alone_fault ts i).number ≡ 31) × (longest ≡ false)
  alone-number v i h l = elim (bool (infeasible_alone (task_at ts i))) [
    | inl t ↦
        let task = task_at ts i in
        let short : deadline_at ts (period_maxs ts) i < own_demand task + task.jitter = rw (max-at ts i) (ltb-true _ _ t) in
        let past = busy-past _ ts (period_maxs ts) i (own-some ts v i l) short in
        let late = misses-none ts (period_maxs ts) i (v i l) past in
        (rw t, schedulable-none ts (period_maxs ts) i l late)
    | inr t ↦ absurd (h (rw t))
  ]

  pub tasks-pass : (infeasible_fault ts).number ≡ 0 → longest ≡ true
  unfolding infeasible_fault
  tasks-pass e = not-false longest (if-passed (not longest) 31 _ (or-second alone (none_fault ts) e))

  pub tasks-break : AllValid ts → ((infeasible_fault ts).number ≡ 0 → ⊥)
      → (((infeasible_fault ts).number ≡ 31) ⊎ ((infeasible_fault ts).number ≡ 32)) × (longest ≡ false)
  unfolding infeasible_fault
  tasks-break v h = elim (eq-or-ne alone.number 0) [
    | inr z ↦ let k = run-some (alone_fault ts) (length ts) 0 z in
        let a = alone-number v k.0 (λ y. z (ap (λ f. f.number) k.1.1 ∙ y)) (omega (arith, k.1.0)) in
        (inl (ap (λ f. f.number) (or-here alone _ z ∙ k.1.1) ∙ a.0), a.1)
    | inl z ↦ elim (bool longest) [
      | inl t ↦ absurd (h (ap (λ f. f.number) (or-next alone _ z) ∙ rw t))
      | inr t ↦ (inr (ap (λ f. f.number) (or-next alone _ z) ∙ rw t), t)
    ]
  ]

module _ {ts : List Task} (v : AllValid ts) where
  met : (ys : List ℕ) → Feasible ts ys → schedulable ts ys ≡ true
  met ys f = covers-schedulable ts v ys f.met

  pub feasible : (ys : List ℕ) → within_bounds ts ys ≡ true → schedulable ts ys ≡ true → Feasible ts ys
  feasible ys b e = record { bounded = b; met = schedulable-covers ts v ys e }

  -- either the longest periods are schedulable, or nothing is
  none-feasible : schedulable ts (period_maxs ts) ≡ false → Infeasible ts
  none-feasible e ys f =
      let w = within-true ts ys f.bounded in
      both ((sound v).monotone ys (period_maxs ts) w (maxs-within ts (ranged ts v)) w.high (met ys f)) e

module _ {ts : List Task} (v : AllValid ts) (budget room : ℕ) (xs : List ℕ) where
  -- refused by 31 or 32
  pub settles-refused : ((infeasible_fault ts).number ≡ 0 → ⊥) → Settles ts budget room (refused (infeasible_fault ts)).answer xs
  settles-refused h =
      let b = tasks-break ts v h in
      record {
        numbers = inr (inl b.0);
        answered = λ z. absurd (h z);
        cheapest = λ z. absurd (h z);
        infeasible = λ k. none-feasible v b.1;
        feasible = λ k. b.0;
        stopped = λ k ys f. omega arith;
        unstopped = λ p q ys f. absurd (none-feasible v b.1 ys f);
        few_rounds = omega arith;
        in_budget = omega arith;
      }

  pub improves-refused : ((infeasible_fault ts).number ≡ 0 → ⊥) → Improves ts (refused (infeasible_fault ts)).answer xs
  improves-refused h =
      let never : IsStop (refused (infeasible_fault ts)).answer → ⊥ =
      λ k. omega (arith, of_two 33 k, of_two 31 (tasks-break ts v h).0) in
      record { incumbent = λ k. absurd (never k); bounded = λ k. absurd (never k) }

-- searched
module _ (ts : List Task) (v : AllValid ts) (budget room : ℕ) (top : schedulable ts (period_maxs ts) ≡ true) (xs : List ℕ) where
  abbrev e : End (List ℕ)
  e = search ts budget room

  abbrev a : Answer
  a = (searched (weights ts) e).answer

  module _ (is : xs ≡ (searched (weights ts) e).periods) where
    𝓛 : Lawful ts (schedulable ts) (rule ts (schedulable ts)) (Incumbent ts (schedulable ts))
    𝓛 = lawful (sound v) top

    first : Incumbent ts (schedulable ts) (period_maxs ts)
    first = incumbent-first (sound v) top

    optimum : Optimal ts (schedulable ts) (weights ts) e
    optimum = search-optimal 𝓛 first budget room

    the_answer : e.number ≡ 0 → xs ≡ e.periods
    the_answer z = is ∙ rw (eq-eqb e.number 0 z)

    stopped : IsStop a → 33 ≤ e.number
    stopped k = (of_two 33 k).0

    pub settles-searched : Settles ts budget room a xs
    settles-searched =
        let never : IsNone a → ⊥ =
        λ k. let n = of_two 31 k in elim optimum.number [ inl z ↦ omega arith | inr z ↦ omega (arith, of_two 33 z) ] in
        record {
          numbers = elim optimum.number [ inl z ↦ inl z | inr z ↦ inr (inr z) ];
          answered = λ z. let o = optimum.answered z in
              (rw (the_answer z) (feasible v e.periods o.0 o.1), ap (cost (weights ts)) (sym is));
          cheapest = λ z ys f d. elim (optimum.cheapest z ys f.bounded (met v ys f)) [
            | inl q ↦ absurd (d (sym q ∙ sym (the_answer z)))
            | inr q ↦ rw (the_answer z) q
          ];
          infeasible = λ k. absurd (never k);
          feasible = λ f. absurd (f (period_maxs ts) (feasible v (period_maxs ts) (true-within ts _ (maxs-within ts 𝓛.ranged)) top));
          stopped = λ k ys f. optimum.stops (stopped k) ys f.bounded (met v ys f);
          unstopped = λ p q ys f. search-answers 𝓛 first budget room p q;
          few_rounds = search-rounds 𝓛 first budget room;
          in_budget = search-budget (rule ts (schedulable ts)) budget room (period_maxs ts) (start ts);
        }

    the_incumbent : IsStop a → Feasible ts xs × (a.cost ≡ cost (weights ts) xs)
    the_incumbent k =
        let n : e.number ≡ 0 → ⊥ = λ z. omega (arith, stopped k) in
        let i = search-carried 𝓛 first budget room in
        let its : xs ≡ e.state = is ∙ rw (ne_eqb e.number 0 n) in
        (rw its (feasible v e.state (true-within ts e.state i.within) i.met), ap (cost (weights ts)) (sym is))

    pub improves-searched : Improves ts a xs
    improves-searched = record {
      incumbent = the_incumbent;
      bounded = λ k. let x = the_incumbent k in omega (arith, settles-searched.stopped k xs x.0, x.1);
    }
