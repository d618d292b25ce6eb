-- From the rules in their order and the search to a call's outcome: 22 and 24 after the file's own, then 31, 32 and the search.
use mathlib.Core.Path.{◌≡◌, refl, sym, ap, ◌∙◌}
use mathlib.Core.Bool.{true, false}
use mathlib.Core.Logic.{inl, inr}
use mathlib.Core.List.{List}
use Prim.Native.Nat.{ℕ, suc, ◌+◌, ◌≤◌, ◌<◌}
use native.Mathlib.Nat.{sub-zero}
use native.Mathlib.Omega.{arith}
use lib.ListN.{length, replicate}
use borrow.Author.Tests.{eq-eqb, ne_eqb, lt-leb, lt-ltb, le-ltb}
use Rattle.std.specs.List.{AllWithin, HoldsAt}
use Rattle.plan.specs.declared.tasks.Task.{Task}
use Rattle.plan.specs.declared.errors.ReadError.{ReadError}
use Rattle.plan.specs.declared.faults.Fault.{Fault}
use Rattle.plan.specs.Errors.{read_error_fault}
use Rattle.plan.specs.Faults.{fault, none}
use Rattle.plan.specs.Files.{file_fault}
use Rattle.plan.specs.Tasks.{max_tasks, no_task, AllValid, period_maxs, weights}
use Rattle.plan.proofs.Tests.{not-false, eq-or-ne, le-or-lt}
use Rattle.plan.proofs.Numbers.{read-error-numbers}
use Rattle.plan.proofs.Rules.{or-next, or-here, run-all, run-skip, run-task}
use Rattle.response.specs.Analysis.{schedulable, slack_list, first_missed}
use Rattle.response.specs.Inner.{Limits}
use Rattle.response.proofs.Bounds.{maxs-within}
use Rattle.response.proofs.Ranges.{ranged, limits-within}
use Rattle.response.proofs.Missed.{schedulable-first, first-schedulable}
use Rattle.optimizer.specs.declared.conclusion.Answer.{Answer}
use Rattle.optimizer.specs.declared.errors.CallError.{CallError}
use Rattle.optimizer.specs.Answers.{call_error_fault, refused_answer}
use Rattle.optimizer.specs.Search.{search}
use Rattle.optimizer.specs.Inner.{Ends}
use Rattle.optimizer.specs.Promises.{call_fault, infeasible_alone, alone_fault, infeasible_fault, Outcome, refused, searched}
use Rattle.optimizer.specs.Promises.{concluded, called, outcome_of, outcome, is_searched, Answers}
use Rattle.optimizer.proofs.Numbers.{call-error-numbers}
use Rattle.optimizer.proofs.Guarantees.{search-optimal}
use Rattle.optimizer.proofs.Settled.{sound, alone, tasks-pass}
use Rattle.optimizer.proofs.Improving.{incumbent-first, lawful}

-- a refusal leaves both spaces as they were
module _ (e : CallError) where
  abbrev f : Fault
  f = call_error_fault e

  pub error-some : f.number ≡ 0 → ⊥
  error-some z = omega (arith, call-error-numbers e)

  pub unsearched : is_searched f.number ≡ false
  unsearched = rw (ne_eqb _ 0 error-some, lt-leb 33 f.number (omega (arith, call-error-numbers e)))

  answers-refused : {o w : List ℕ} → Answers (refused f) o o w w (refused_answer f)
  answers-refused = record { answer = refl; periods = rw unsearched; work = rw unsearched }

  pub concluded-refused : (ts : List Task) (x : Outcome) {o w : List ℕ} → f ≡ infeasible_fault ts
      → Answers (concluded ts x) o o w w (refused_answer f)
  concluded-refused ts x q = rw (← q, ne_eqb _ 0 error-some) answers-refused

  pub called-refused : (g : Fault) (ts : List Task) (x : Outcome) {o w : List ℕ} → f ≡ call_fault g ts (length o) (length w)
      → Answers (called g ts (length o) (length w) x) o o w w (refused_answer f)
  called-refused g ts x q = rw (← q, ne_eqb _ 0 error-some) answers-refused

pub longest-limits : (ts : List Task) → AllValid ts → length ts ≤ max_tasks → Limits ts (period_maxs ts)
longest-limits ts v few = limits-within ts v (maxs-within ts (ranged ts v)) few

pub searched-number : (ts : List Task) → AllValid ts → schedulable ts (period_maxs ts) ≡ true → (budget room : ℕ)
    → is_searched (search ts budget room).number ≡ true
searched-number ts v t budget room =
    let s = sound v in
    elim (search-optimal (lawful s t) (incumbent-first s t) budget room).number [
      | inl q ↦ rw q
      | inr p ↦ elim p [ inl q ↦ rw q | inr q ↦ rw q ]
    ]

-- 31: the first task that it refuses, as it is looked for
module _ (ts : List Task) where
  abbrev Passes : Task → Type 0
  Passes t = infeasible_alone t ≡ false

  alone-passes : (n : ℕ) → AllWithin Passes ts 0 n → (k : ℕ) → k < n → (alone_fault ts k).number ≡ 0
  alone-passes n h k l = rw (h k no_task (omega arith) l)

  pub alone-none : AllWithin Passes ts 0 (length ts) → alone ts ≡ none
  alone-none h = run-all (alone_fault ts) (length ts) 0 (λ k a b. alone-passes (length ts) h k (omega arith))

  pub alone-some : (i : ℕ) → (i < length ts) × HoldsAt (λ t. infeasible_alone t ≡ true) ts i × AllWithin Passes ts 0 i
      → alone ts ≡ fault 31 (i + 1)
  alone-some i (l, here, before) =
      let e : 0 + i ≡ i = omega arith in
      rw (sub-zero (length ts), e) at (run-skip (alone_fault ts) (length ts) 0 i (omega arith) (λ k a b. alone-passes i before k (omega arith)))
      ∙ run-task (alone_fault ts) (length ts) i 30 l (rw (here no_task))

-- then 32
module _ (ts : List Task) where
  pub is-alone : (e : CallError) → call_error_fault e ≡ alone ts → call_error_fault e ≡ infeasible_fault ts
  unfolding infeasible_fault
  is-alone e q = q ∙ sym (or-here (alone ts) _ (rw q at (error-some e)))

  module _ (e : none ≡ alone ts) where
    passes-alone : (alone ts).number ≡ 0
    passes-alone = ap (λ f. f.number) (sym e)

    pub is_none : {i : ℕ} → suc i ≡ first_missed (slack_list ts (period_maxs ts)) → fault 32 (i + 1) ≡ infeasible_fault ts
    unfolding infeasible_fault
    is_none {i} q =
        let f : schedulable ts (period_maxs ts) ≡ false =
        not-false (λ t. let z = schedulable-first ts (period_maxs ts) t in omega arith) in
        let p : i + 1 ≡ first_missed (slack_list ts (period_maxs ts)) = omega arith in
        sym (or-next (alone ts) _ passes-alone ∙ rw (f, p))

    pub is-feasible : 0 ≡ first_missed (slack_list ts (period_maxs ts)) → none ≡ infeasible_fault ts
    unfolding infeasible_fault
    is-feasible q = sym (or-next (alone ts) _ passes-alone ∙ rw (first-schedulable ts (period_maxs ts) (sym q)))

  -- nothing of both: the search
  module _ (e : none ≡ infeasible_fault ts) where
    passes : (infeasible_fault ts).number ≡ 0
    passes = ap (λ f. f.number) (sym e)

    pub longest-meet : schedulable ts (period_maxs ts) ≡ true
    longest-meet = tasks-pass ts passes

    -- it leaves the work space cleared
    pub concluded-searched : AllValid ts → (budget room : ℕ) {o o' w w' : List ℕ} {r : Answer}
        → let x = searched (weights ts) (search ts budget room) in
        Ends x o' r → w' ≡ replicate (length w) 0 → Answers (concluded ts x) o o' w w' r
    concluded-searched v budget room x c =
        let k = searched-number ts v longest-meet budget room in
        rw (eq-eqb _ 0 passes) (record { answer = x.answer; periods = rw k x.periods; work = rw k c })

-- the rules before the search's own
module _ (f : Fault) (ts : List Task) (space work : ℕ) where
  pub call-file : (f.number ≡ 0 → ⊥) → call_fault f ts space work ≡ f
  unfolding call_fault
  call-file h = or-here f _ h

  module _ (e : f.number ≡ 0) where
    pub call-space : (space ≡ length ts → ⊥) → fault 22 0 ≡ call_fault f ts space work
    unfolding call_fault
    call-space h = sym (or-next f _ e ∙ rw (ne_eqb space (length ts) h))

    module _ (h : space ≡ length ts) where
      pub call-work : work < length ts → fault 24 0 ≡ call_fault f ts space work
      unfolding call_fault
      call-work l = sym (or-next f _ e ∙ rw (eq-eqb space (length ts) h, lt-ltb work (length ts) l))

      pub call-passes : length ts ≤ work → none ≡ call_fault f ts space work
      unfolding call_fault
      call-passes l = sym (or-next f _ e ∙ rw (eq-eqb space (length ts) h, le-ltb work (length ts) l))

-- a file's own refusal is the call's
pub unread : (e : ReadError) (s : List ℕ) → read_error_fault e ≡ file_fault s → (budget space work : ℕ)
    → outcome s budget space work ≡ refused (read_error_fault e)
unfolding outcome_of call_fault
unread e s h budget space work =
    let n = ne_eqb (read_error_fault e).number 0 (λ z. omega (arith, read-error-numbers e)) in rw (← h, n, n)

-- they pass: the spaces fit
module _ (ts : List Task) (space work : ℕ) (e : none ≡ call_fault none ts space work) where
  pub spaces-sized : space ≡ length ts
  spaces-sized = elim (eq-or-ne space (length ts)) [
    | inl h ↦ h
    | inr h ↦ let z = ap (λ (f : Fault). f.number) (e ∙ sym (call-space none ts space work refl h)) in omega arith
  ]

  pub spaces-room : length ts ≤ work
  spaces-room = elim (le-or-lt (length ts) work) [
    | inl l ↦ l
    | inr l ↦ let z = ap (λ (f : Fault). f.number) (e ∙ sym (call-work none ts space work refl spaces-sized l)) in omega arith
  ]

module _ (f : Fault) (ts : List Task) (o w : List ℕ) (e : none ≡ call_fault f ts (length o) (length w)) where
  -- the outcome of tasks is that of the call
  pub called-concluded : (x : Outcome) {o' w' : List ℕ} {r : Answer} → Answers (concluded ts x) o o' w w' r
      → Answers (called f ts (length o) (length w) x) o o' w w' r
  called-concluded x a = rw (← e) a
