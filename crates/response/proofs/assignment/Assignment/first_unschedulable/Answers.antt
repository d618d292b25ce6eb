use Rattle.std.proofs.Common.{rules, tests, ◌≡◌, ◌≤◌, ◌<◌, length, ℕ, List, true, false, Option, Some, None, sym, arith}
use Rattle.std.specs.Prelude.{MatchOption, IfSome}
use Rattle.std.proofs.lemmas.Iterator.{first_from_Range}
use Rattle.plan.specs.declared.tasks.Task.{Task}
use Rattle.response.specs.Analysis.{meets, slack_list, first_missed}
use Rattle.response.specs.Inner.{some_task}
use Rattle.response.proofs.Sustainable.{all-schedulable}
use Rattle.response.proofs.Missed.{FirstMiss, schedulable-first, first_missed-is}
use Rattle.response.proofs.assignment.Assignment.first_unschedulable.Goals as goal

-- the search by index
searched : (ts : List Task) (xs : List ℕ) (n : ℕ) → n ≡ length ts → (found : Option ℕ)
    → MatchOption found
    ((k : ℕ) → 0 ≤ k → k < n → meets ts xs k ≡ true)
    (λ i. (0 ≤ i) × (i < n) × (meets ts xs i ≡ false) × ((k : ℕ) → 0 ≤ k → k < i → meets ts xs k ≡ true))
    → (some_task found ≡ first_missed (slack_list ts xs)) × IfSome found (λ i. i < n)
searched ts xs n e None h =
    (sym (schedulable-first ts xs (all-schedulable ts xs (λ k l. h k (omega arith) (omega arith)))), tt)
searched ts xs n e (Some i) h =
    let met = λ (k : ℕ) (l : k < i). h.3 k (omega arith) l in
    let first : FirstMiss ts xs i = record { below = omega (arith, h.1); misses = h.2; above = met } in
    (sym (first_missed-is ts xs i first), h.1)

pub returns : goal.returns
returns c =
    let ts = c.args.self.now.tasks.now in
    let xs = c.args.self.now.periods.now in
    let found = first_from_Range (record { start = 0; end = length xs }) _ _ c.find.result
    (λ i. meets ts xs i ≡ false) (λ i. meets ts xs i ≡ true) c.find.ensures.ran
    (λ x q k. search (rules, tests)) (λ x q k. search (rules, tests)) in
    let r = searched ts xs (length xs) c.args.self.now.limits.sized c.find.result found in
    record { first = r.0; within = r.1 }
