-- From what READ and CHEAPEST return to the listing.
use mathlib.Core.Path.{◌≡◌, sym, ap, ◌∙◌}
use mathlib.Core.Bool.{true}
use mathlib.Core.Logic.{inl, inr}
use mathlib.Core.List.{List, [], ◌∷◌, ◌++◌}
use Prim.Native.Nat.{ℕ}
use native.Mathlib.Omega.{arith}
use lib.ListN.{length}
use borrow.Author.Tests.{eq-eqb, ne_eqb, lt-ltb}
use Rattle.std.specs.List.{AllZip}
use Rattle.std.specs.Prelude.{Ok, Err}
use Rattle.std.proofs.lemmas.Slice.Zip.{AllZip-long}
use Rattle.plan.specs.declared.errors.ReadError.{ReadError}
use Rattle.plan.specs.declared.record.Plan.{Plan}
use Rattle.plan.specs.declared.tasks.Task.{Task}
use Rattle.plan.specs.Errors.{read_error_fault}
use Rattle.plan.specs.Faults.{none, passed}
use Rattle.plan.specs.Files.{file_fault, tasks_of}
use Rattle.plan.specs.Promises.{plan_tasks, Loads}
use Rattle.plan.proofs.Tests.{bool}
use Rattle.plan.proofs.Accepted.{accepted-none}
use Rattle.response.specs.Inner.{Limits}
use Rattle.response.proofs.Bounds.{Within, within-true}
use Rattle.response.proofs.Ranges.{limits-within}
use Rattle.optimizer.specs.declared.errors.CallError.{CallError}
use Rattle.optimizer.specs.declared.errors.CallError.TheVariants.{Read}
use Rattle.optimizer.specs.declared.conclusion.Answer.{Answer}
use Rattle.optimizer.specs.declared.conclusion.Conclusion.TheVariants.{Answered, Stopped}
use Rattle.optimizer.specs.declared.conclusion.Stop.{Stop}
use Rattle.optimizer.specs.declared.conclusion.Stop.TheVariants.{Budget, Room}
use Rattle.optimizer.specs.Answers.{call_error_fault, stop_fault, answer_of}
use Rattle.optimizer.specs.Promises.{Outcome, refused, outcome_of, outcome, call_fault, cleared, Answers, Plans}
use Rattle.optimizer.proofs.Numbers.{call-error-numbers}
use Rattle.optimizer.proofs.Concluding.{unsearched, unread}
use Rattle.listing.specs.Text.{line, decimal, cost_word, rounds_word, refusal_fields, stop_fields, task_lines}
use Rattle.listing.specs.Text.{listing_for, listing_of}

refusal-text : (e : CallError) (s : List ℕ) (x : Outcome) → call_error_fault e ≡ x.answer.fault
    → line (refusal_fields (call_error_fault e)) ≡ listing_for s x
unfolding listing_for
refusal-text e s x h =
    let k = call-error-numbers e in
    let n : ℕ = (call_error_fault e).number in
    rw (← h, ne_eqb n 0 (λ z. omega arith), lt-ltb n 33 (omega (arith, k.1)))

-- a file that is refused
module _ (e : ReadError) (s : List ℕ) (h : read_error_fault e ≡ file_fault s) (budget : ℕ) (w : List ℕ) where
  refuses : outcome s budget (length (tasks_of s)) (length w) ≡ refused (read_error_fault e)
  refuses = unread e s h budget (length (tasks_of s)) (length w)

  pub unread-listed : line (refusal_fields (read_error_fault e)) ≡ listing_of s budget (length w)
  unread-listed = refusal-text (Read e) s _ (sym (ap (λ x. x.answer.fault) refuses))

  pub unread-work : w ≡ cleared (outcome s budget (length (tasks_of s)) (length w)) w
  unread-work = rw (refuses, unsearched (Read e))

-- CHEAPEST of a plan that was loaded, with a space of a number for each task
module _ {s : List ℕ} {plan : Plan} (l : Loads s plan) (R : Task → ℕ → Type 0) {ns o : List ℕ}
    (z : AllZip R (plan_tasks plan) ns) (v : o ≡ ns) {budget : ℕ} {o' w w' : List ℕ} {r : Answer}
    (p : Plans none (plan_tasks plan) budget o o' w w' r) where
  plans : Plans (file_fault s) (tasks_of s) budget o o' w w' r
  plans = rw (accepted-none s l.accepts, ← l.tasks) p

  abbrev x : Outcome
  x = outcome s budget (length (tasks_of s)) (length w)

  answers : Answers x o o' w w' r
  answers = rw (ap length v ∙ AllZip-long R _ _ z ∙ ap length l.tasks) at plans.answers

  pub work-left : w' ≡ cleared x w
  work-left = answers.work

  pub refusal-listed : (e : CallError) → r ≡ answer_of (Err e)
      → line (refusal_fields (call_error_fault e)) ≡ listing_for s x
  refusal-listed e is = refusal-text e s x (ap (λ a. a.fault) (sym is ∙ answers.answer))

  pub stop-listed : (stop : Stop) (cost rounds bound : ℕ) → r ≡ answer_of (Ok (Stopped stop cost rounds bound))
      → line (stop_fields (stop_fault stop) bound rounds cost) ≡ listing_for s x
  unfolding listing_for
  stop-listed Budget cost rounds bound is = rw (← answers.answer, is)
  stop-listed Room cost rounds bound is = rw (← answers.answer, is)

  module _ (cost rounds : ℕ) (is : r ≡ answer_of (Ok (Answered cost rounds))) where
    called : passed (call_fault (file_fault s) (tasks_of s) (length o) (length w)) ≡ true
    unfolding outcome_of
    called = elim (bool (passed (call_fault (file_fault s) (tasks_of s) (length o) (length w)))) [
      | inl e ↦ e
      | inr e ↦ eq-eqb _ 0 (sym (ap (λ a. a.fault.number) (rw (e, is) at plans.answers.answer)))
    ]

    within : Within (tasks_of s) o'
    within =
        within-true (tasks_of s) o' ((plans.settles called).answered (ap (λ a. a.fault.number) is)).0.bounded

    pub answer-limits : Limits (plan_tasks plan) o'
    answer-limits = limits-within (plan_tasks plan) plan.valid (rw l.tasks within) plan.few

    pub answer-listed : line (cost_word ∷ decimal cost ∷ rounds_word ∷ decimal rounds ∷ [])
        ++ task_lines s o' (length o')
        ≡ listing_for s x
    unfolding listing_for
    answer-listed =
        let e = rw (← answers.answer, is) at answers.periods in rw (← answers.answer, is, ← e, within.sized)
