-- From what READ and FEEDERS return to the text.
use mathlib.Core.Path.{◌≡◌, refl, sym, ◌∙◌}
use mathlib.Core.Bool.{true≢false}
use mathlib.Core.List.{List, [], ◌∷◌, ◌++◌}
use Prim.Native.Nat.{ℕ}
use native.Mathlib.Omega.{arith}
use lib.ListN.{length, take, replicate}
use borrow.Author.Tests.{ne_eqb}
use Rattle.std.proofs.lemmas.List.{take-replicate}
use Rattle.std.specs.Prelude.{Option, unwrap_or, Result, Ok, Err}
use Rattle.plan.specs.declared.errors.ReadError.{ReadError}
use Rattle.plan.specs.declared.record.Plan.{Plan}
use Rattle.plan.specs.Errors.{read_error_fault}
use Rattle.plan.specs.Faults.{none}
use Rattle.plan.specs.Files.{file_fault, tasks_of}
use Rattle.plan.specs.Tasks.{max_tasks}
use Rattle.plan.specs.Promises.{plan_tasks, Loads}
use Rattle.plan.proofs.Accepted.{accepted-none}
use Rattle.plan.proofs.Numbers.{read-error-numbers}
use Rattle.precedence.specs.declared.errors.PrecedenceError.{PrecedenceError}
use Rattle.precedence.proofs.Numbers.{precedence-error-number}
use Rattle.precedence.specs.Errors.{precedence_error_fault}
use Rattle.precedence.specs.Promises.{CountsPredecessors, precedence_answer}
use Rattle.listing.specs.Text.{line, decimal, refusal_fields}
use Rattle.feeders.specs.Text.{Lists, count_lines, pair_word}

-- a file that is refused
pub unread : (e : ReadError) (s list : List ℕ) → read_error_fault e ≡ file_fault s
    → Lists s list (line (refusal_fields (read_error_fault e)))
unread e s list h =
    let z = ne_eqb (read_error_fault e).number 0 (λ z. omega (arith, read-error-numbers e)) in
    record {
      counts = replicate (length (tasks_of s)) 0;
      answer = record { fault = read_error_fault e; pair = 0 };
      counted = record {
        fault = rw (← h, z) refl;
        pair = rw z refl;
        sized = refl;
        counts = λ p. absurd (true≢false (sym p ∙ z));
        unchanged = λ _. refl;
      };
      prints = rw z refl;
    }

-- FEEDERS of a plan that was loaded, with a space of zeros
module _ {s : List ℕ} {plan : Plan} (l : Loads s plan) {n : ℕ} (sized : n ≡ length (plan_tasks plan))
    {list o' : List ℕ} (r : Result (Option ℕ) PrecedenceError)
    (p : let count = length (plan_tasks plan) in
    CountsPredecessors none count list (take n (replicate max_tasks 0)) o' (precedence_answer r))
  where
    zeros : take n (replicate max_tasks 0) ≡ replicate {A = ℕ} (length (plan_tasks plan)) 0
    zeros = rw sized (take-replicate (length (plan_tasks plan)) max_tasks 0 plan.few)

    on-file : let n = length (tasks_of s) in
        CountsPredecessors (file_fault s) n list (replicate n 0) o' (precedence_answer r)
    on-file = rw (accepted-none s l.accepts, ← l.tasks) (rw zeros at p)

    pub refused : (e : PrecedenceError) → r ≡ Err e → Lists s list (line (refusal_fields (precedence_error_fault e)))
    refused e is =
        let z = ne_eqb (precedence_error_fault e).number 0 (λ e0. omega (arith, precedence-error-number e)) in
        record { counts = o'; answer = precedence_answer (Err e); counted = rw is at on-file; prints = rw z refl }

    pub listed : (pair : Option ℕ) → r ≡ Ok pair → {text : List ℕ}
        → text ≡ count_lines s o' (length o') ++ line (pair_word ∷ decimal (unwrap_or pair 0) ∷ []) → Lists s list text
    listed pair is t =
        record { counts = o'; answer = precedence_answer (Ok pair); counted = rw is at on-file; prints = t }
