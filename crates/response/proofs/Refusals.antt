-- TIMES: from its rules in their order to its answer.
use mathlib.Core.Path.{◌≡◌, sym, ◌∙◌}
use mathlib.Core.Bool.{not}
use mathlib.Core.Logic.{inl, inr}
use mathlib.Core.List.{List, [], ◌∷◌}
use Prim.Native.Nat.{ℕ, suc, ◌≤◌}
use native.Mathlib.Omega.{arith}
use lib.Dec.{eqb}
use lib.ListN.{length, get_or, get_or-eq_default}
use borrow.Author.Tests.{eqb-true, eq-eqb, ne_eqb, not-false}
use Rattle.std.specs.Prelude.{ℤ}
use Rattle.plan.specs.declared.faults.Fault.{Fault}
use Rattle.plan.specs.declared.tasks.Task.{Task}
use Rattle.plan.specs.Faults.{fault, first_fault}
use Rattle.plan.specs.Tasks.{between, no_task, task_at, AllValid}
use Rattle.plan.proofs.Tests.{le-or-lt, eq-or-ne, between_le}
use Rattle.plan.proofs.Rules.{or-next, or-here, or-first, or-second, if-passed, run-passed, run_none}
use Rattle.response.specs.Analysis.{slack_list}
use Rattle.response.specs.Promises.{period_count_fault, space_fault, bound_fault, bounds_fault, periods_fault, times_fault}
use Rattle.response.specs.Promises.{TimesAnswer, answer_times, Analyses}
use Rattle.response.proofs.Bounds.{Within}
use Rattle.response.proofs.Slack.{slack-exact}
use Rattle.response.proofs.Ranges.{min-at, max-at, some-within, limits-within}
use Rattle.response.proofs.Answers.{slacks-length, slacks-at}
use Rattle.response.proofs.ExactRelease.{exact-slacks}

-- rules 21 to 23 of a count of tasks, by the first of them that may be broken
module _ (ts : List Task) (xs : List ℕ) (space : ℕ) {count : ℕ} (k : count ≡ length ts) where
  pub length-broken : (length xs ≡ count → ⊥) → fault 21 0 ≡ periods_fault ts xs space
  unfolding periods_fault
  length-broken h = rw (ne_eqb (length xs) (length ts) (λ e. h (e ∙ sym k)))

  module _ (n : length xs ≡ count) where
    pub space-broken : (space ≡ count → ⊥) → fault 22 0 ≡ periods_fault ts xs space
    unfolding periods_fault
    space-broken h = rw (eq-eqb (length xs) (length ts) (n ∙ k), ne_eqb space (length ts) (λ e. h (e ∙ sym k)))

    pub bounds-left : space ≡ count → bounds_fault ts xs ≡ periods_fault ts xs space
    unfolding periods_fault
    bounds-left h = rw (eq-eqb (length xs) (length ts) (n ∙ k), eq-eqb space (length ts) (h ∙ k))
        (elim (eq-or-ne (bounds_fault ts xs).number 0) [
          | inl z ↦ run_none (bound_fault ts xs) (length ts) 0 z ∙ sym (or-next (bounds_fault ts xs) _ z)
          | inr z ↦ sym (or-here (bounds_fault ts xs) _ z)
        ])

pub ruleset rules_in_order = (length-broken, space-broken, bounds-left)

-- no period outside its bounds
bounds-within : (ts : List Task) (xs : List ℕ) → length xs ≡ length ts → (bounds_fault ts xs).number ≡ 0 → Within ts xs
bounds-within ts xs n e = record {
  sized = n;
  low = λ k. rw (min-at ts k) (at k).0;
  high = λ k. rw (max-at ts k) (at k).1;
} where
  at : (k : ℕ) → ((task_at ts k).period_min ≤ get_or xs k 0) × (get_or xs k 0 ≤ (task_at ts k).period_max)
  at k = elim (le-or-lt (length ts) k) [
    | inl o ↦
        let a = get_or-eq_default ts no_task {n = k} o in
        let b = get_or-eq_default xs 0 {n = k} (rw n o) in
        rw (a, b) (omega arith, omega arith)
    | inr h ↦ let l : ℕ = (task_at ts k).period_min in let x : ℕ = get_or xs k 0 in let u : ℕ = (task_at ts k).period_max in
        let z = run-passed (bound_fault ts xs) (length ts) 0 e k (omega arith) (omega arith) in
        between_le l x u (not-false (between l x u) (if-passed (not (between l x u)) 22 (suc k) z))
  ]

pub record Passed (ts : List Task) (xs : List ℕ) (space : ℕ) : Type 0 where
  pub within : Within ts xs
  pub sized : space ≡ length ts

pub passed-periods : (ts : List Task) (xs : List ℕ) (space : ℕ) → (periods_fault ts xs space).number ≡ 0 → Passed ts xs space
unfolding periods_fault
passed-periods ts xs space e =
    let l = or-first (period_count_fault ts xs) _ e in
    let r = or-second (period_count_fault ts xs) (first_fault (space_fault ts space ∷ bounds_fault ts xs ∷ [])) e in
    let s = or-first (space_fault ts space) _ r in
    let b = or-first (bounds_fault ts xs) (first_fault []) (or-second (space_fault ts space) _ r) in
    let n = eqb-true _ _ (not-false (eqb (length xs) (length ts)) (if-passed (not (eqb (length xs) (length ts))) 20 0 l)) in
    record {
      within = bounds-within ts xs n b;
      sized = eqb-true _ _ (not-false (eqb space (length ts)) (if-passed (not (eqb space (length ts))) 21 0 s));
    }

-- what a call whose rules were passed owes its inner calls
pub ruleset passed_rules = (passed-periods, limits-within, slacks-length)

-- its answer
pub analysed : {f : Fault} {ts : List Task} {xs : List ℕ} {o o' : List ℤ} {r : TimesAnswer} → f.number ≡ 0
    → {g : Fault} → g ≡ periods_fault ts xs (length o) → AllValid ts → g.number ≡ 0 → o' ≡ slack_list ts xs → r ≡ answer_times o'
    → Analyses f ts xs o o' r
analysed {f} {ts} {xs} {o} a {g} e v z w is =
    let within = (passed-periods ts xs (length o) (rw e at z)).within in
    let p : times_fault f ts xs (length o) ≡ g = or-next f _ a ∙ sym e in
    let t = eq-eqb g.number 0 z in
    rw w
    (record {
      answer = rw (p, t, ← w) is;
      slacks = rw (p, t);
      exact = λ _ i l. rw (slacks-at ts xs i l) (slack-exact ts xs i (v i l) (some-within ts v within i l));
      exact_release = λ _ n. let same = exact-slacks ts n xs in (rw (w, same) at is, same);
    })
