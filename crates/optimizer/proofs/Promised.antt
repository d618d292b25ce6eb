-- What CHEAPEST promises, from the outcome of a call: demand 3 and the incumbent.
use mathlib.Core.Path.{◌≡◌, sym, ◌∙◌}
use mathlib.Core.Bool.{true}
use mathlib.Core.Logic.{inl, inr}
use mathlib.Core.List.{List}
use Prim.Native.Nat.{ℕ}
use lib.ListN.{length}
use borrow.Author.Tests.{eqb-true, eq-eqb, ne_eqb}
use Rattle.plan.specs.declared.tasks.Task.{Task}
use Rattle.plan.specs.declared.faults.Fault.{Fault}
use Rattle.plan.specs.Faults.{passed}
use Rattle.plan.specs.Tasks.{AllValid, weights}
use Rattle.plan.proofs.Tests.{eq-or-ne}
use Rattle.optimizer.specs.declared.conclusion.Answer.{Answer}
use Rattle.optimizer.specs.declared.errors.CallError.{CallError}
use Rattle.optimizer.specs.Answers.{call_error_fault, refused_answer}
use Rattle.optimizer.specs.Search.{search}
use Rattle.optimizer.specs.Claims.{Settles, Improves}
use Rattle.optimizer.specs.Promises.{call_fault, infeasible_fault, room_of, searched, concluded, called, outcome_of, Answers, Plans}
use Rattle.optimizer.proofs.Settled.{tasks-pass, settles-refused, improves-refused, settles-searched, improves-searched}
use Rattle.optimizer.proofs.Concluding.{searched-number, error-some, call-file, called-refused}
use Rattle.optimizer.proofs.ExactRelease.{exact-answers}

module _ (f : Fault) (ts : List Task) (v : AllValid ts) (budget : ℕ) (o o' w w' : List ℕ) (r : Answer) where
  abbrev room : ℕ
  room = room_of ts (length w)

  demanded : Answers (concluded ts (searched (weights ts) (search ts budget room))) o o' w w' r
      → Settles ts budget room r o' × Improves ts r o'
  demanded a = elim (eq-or-ne (infeasible_fault ts).number 0) [
    | inl z ↦
        let b = rw (eq-eqb _ 0 z) at a in
        let top = tasks-pass ts z in
        let is = rw (searched-number ts v top budget room) at b.periods in
        rw b.answer (settles-searched ts v budget room top o' is, improves-searched ts v budget room top o' is)
    | inr z ↦ let b = rw (ne_eqb _ 0 z) at a in
        rw b.answer (settles-refused v budget room o' z, improves-refused v budget room o' z)
  ]

  pub plans : Answers (called f ts (length o) (length w) (searched (weights ts) (search ts budget room))) o o' w w' r
      → Plans f ts budget o o' w w' r
  unfolding outcome_of
  plans a = record {
    answers = a;
    settles = λ t. (demanded (rw t at a)).0;
    improves = λ t. (demanded (rw t at a)).1;
    exact_release = λ n. exact-answers ts n f budget o w a;
  }

-- a refusal by a call's own rules, and by a file's
module _ (e : CallError) (f : Fault) (ts : List Task) (budget : ℕ) (o w : List ℕ) where
  module _ (q : call_error_fault e ≡ call_fault f ts (length o) (length w)) where
    never : passed (call_fault f ts (length o) (length w)) ≡ true → ⊥
    never t = error-some e (eqb-true _ 0 (rw (← q) at t))

    pub plans-refused : Plans f ts budget o o w w (refused_answer (call_error_fault e))
    unfolding outcome_of
    plans-refused = let a = called-refused e f ts _ q in record {
      answers = a;
      settles = λ t. absurd (never t);
      improves = λ t. absurd (never t);
      exact_release = λ n. exact-answers ts n f budget o w a;
    }

  pub plans-unread : call_error_fault e ≡ f → Plans f ts budget o o w w (refused_answer (call_error_fault e))
  plans-unread q = plans-refused (q ∙ sym (call-file f ts (length o) (length w) (rw q at (error-some e))))
