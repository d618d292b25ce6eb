-- The call: what it carries of a file that is refused, and of the tasks of a plan.
use mathlib.Core.Path.{◌≡◌, refl, sym, ap, ◌∙◌}
use mathlib.Core.Bool.{Bool, true, false, cond, true≢false}
use mathlib.Core.List.{List, [], ◌++◌}
use Prim.Native.Nat.{ℕ}
use native.Mathlib.Omega.{arith}
use lib.ListN.{length, take, drop, take-append-drop}
use lib.Seq.{take_at, length-take-le}
use borrow.Author.Tests.{eq-eqb, ne_eqb, le-ltb}
use Rattle.plan.specs.declared.errors.ReadError.{ReadError}
use Rattle.plan.specs.declared.record.Plan.{Plan}
use Rattle.plan.specs.Errors.{read_error_fault}
use Rattle.plan.specs.Faults.{none, passed}
use Rattle.plan.specs.Files.{file_fault, accepted, tasks_of}
use Rattle.plan.specs.Promises.{plan_tasks, Loads}
use Rattle.plan.proofs.Numbers.{read-error-numbers}
use Rattle.plan.proofs.Accepted.{accepted-none, refused-tasks, tasks-few}
use Rattle.optimizer.specs.declared.conclusion.Answer.{Answer}
use Rattle.optimizer.specs.declared.errors.CallError.TheVariants.{Read}
use Rattle.optimizer.specs.Answers.{refused_answer}
use Rattle.optimizer.specs.Promises.{call_fault, is_searched, Answers, Plans}
use Rattle.optimizer.proofs.Concluding.{unsearched, unread}
use Rattle.desk.specs.declared.block.Carried.{Carried}
use Rattle.desk.specs.Block.{no_periods, padded}
use Rattle.desk.specs.Inner.{Finds}
use Rattle.desk.specs.Promises.{desk_work, desk_outcome}

-- an accepted file passes the rules for the spaces too
call-passes : (s : List ℕ) → accepted s ≡ true
    → passed (call_fault (file_fault s) (tasks_of s) (length (tasks_of s)) desk_work) ≡ true
unfolding call_fault
call-passes s e =
    let n : ℕ = length (tasks_of s) in
    rw (e, eq-eqb n n refl, le-ltb desk_work n (omega (arith, tasks-few s)))

-- what CHEAPEST is lent, the first n of sixteen zeros; and what is carried when it left o' there
abbrev lent : ℕ → List ℕ
lent n = take n no_periods

abbrev left : ℕ → List ℕ → Answer → Carried
left n o' a = record { answer = a; tasks = n; periods = o' ++ drop n no_periods }

-- of n tasks of a plan
module _ {s : List ℕ} {p : Plan} (loads : Loads s p) {n : ℕ} (count : n ≡ length (plan_tasks p)) where
  all : n ≡ length (tasks_of s)
  all = count ∙ ap length loads.tasks

  all-lent : length (lent n) ≡ n
  all-lent = length-take-le n no_periods (omega (arith, all, tasks-few s))

  module _ {o' : List ℕ} (sized : length o' ≡ length (lent n)) where
    all-periods : (searched : Bool) (xs : List ℕ) → o' ≡ cond searched xs (lent n)
        → o' ++ drop n no_periods ≡ padded (cond searched xs [])
    all-periods true xs z = rw (← z, sized, all-lent)
    all-periods false xs z = rw z (take-append-drop n no_periods)

-- a file that is refused has no tasks
pub finds-refusal : (s : List ℕ) (e : ReadError) → read_error_fault e ≡ file_fault s → (budget : ℕ)
    → Finds s budget (record { answer = refused_answer (read_error_fault e); tasks = 0; periods = no_periods })
finds-refusal s e refuses budget =
    let unaccepted : accepted s ≡ false =
    rw (← refuses) (ne_eqb (read_error_fault e).number 0 (λ z. omega (arith, read-error-numbers e))) in
    record {
      is = rw (unread e s refuses budget (length (tasks_of s)) desk_work, unsearched (Read e), refused-tasks s unaccepted);
      fulfils = λ t. absurd (true≢false (sym t ∙ unaccepted));
    }

pub finds-plan : {s : List ℕ} {p : Plan} (loads : Loads s p) {n : ℕ} (count : n ≡ length (plan_tasks p))
    → {o' : List ℕ} → length o' ≡ length (lent n) → {budget : ℕ} {w w' : List ℕ} {a : Answer}
    → Plans none (plan_tasks p) budget (lent n) o' w w' a → length w ≡ desk_work → Finds s budget (left n o' a)
finds-plan {s} loads {n} count {o'} sized {budget} {w} {w'} {a} plans work =
    let x = desk_outcome s budget in
    let f = accepted-none s loads.accepts in
    let e : length (lent n) ≡ length (tasks_of s) = all-lent loads count ∙ all loads count in
    let p = rw (← f, loads.tasks) at plans in
    let answers : Answers x (lent n) o' w w' a = rw (e, work) at p.answers in
    let front = take_at o' (drop n no_periods) n (sized ∙ all-lent loads count) in
    record {
      is =
          rw (
            all-periods loads count sized (is_searched x.answer.fault.number) x.periods answers.periods,
            answers.answer,
            all loads count,
          );
      fulfils = λ t. record {
        settles = rw front (rw (e, work) at p.settles (call-passes s t));
        improves = rw front (rw (e, work) at p.improves (call-passes s t));
      };
    }
