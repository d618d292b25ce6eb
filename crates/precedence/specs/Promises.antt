-- What FEEDERS promises, of any bytes, list and space.
use Rattle.std.specs.Prelude.{◌≡◌, true, false, not, cond, List, [], ◌∷◌, ℕ, suc, ◌<◌, eqb, length, get_or}
use Rattle.std.specs.Prelude.{Option, unwrap_or, Result, Ok, Err}
use Rattle.plan.specs.declared.faults.Fault.{Fault}
use Rattle.plan.specs.Faults.{none, fault_if, passed, first_fault}
use Rattle.precedence.specs.declared.errors.PrecedenceError.{PrecedenceError}
use Rattle.precedence.specs.Pairs.{pairs_of, list_fault, pairs_fault, first_misordered}
use Rattle.precedence.specs.Chains.{Predecessors}
use Rattle.precedence.specs.Errors.{precedence_error_fault}

-- "then 40 if the space is not n bytes", place 0
abbrev pub space_fault : ℕ → ℕ → Fault
space_fault n space = fault_if (not (eqb space n)) 40 0

-- of a file's fault f and its n tasks, the rules in their order
abbrev pub precedence_fault : Fault → ℕ → List ℕ → ℕ → Fault
precedence_fault f n list space =
    first_fault (f ∷ list_fault list ∷ pairs_fault n (pairs_of list) ∷ space_fault n space ∷ [])

-- FEEDERS's answer: the refusal, and the first misordered pair, counted from 1, or 0; "The pair given is 0 on every
-- refusal."
pub record PrecedenceAnswer : Type 0 where
  pub fault : Fault
  pub pair : ℕ

-- what a call returns, as that
abbrev pub precedence_answer : Result (Option ℕ) PrecedenceError → PrecedenceAnswer
precedence_answer (Ok pair) = record { fault = none; pair = unwrap_or pair 0 }
precedence_answer (Err e) = record { fault = precedence_error_fault e; pair = 0 }

-- FEEDERS of a file's fault f and its n tasks, with the space o before and o' after
pub record CountsPredecessors (f : Fault) (n : ℕ) (list o o' : List ℕ) (r : PrecedenceAnswer) : Type 0 where
  pub fault : r.fault ≡ precedence_fault f n list (length o)
  pub pair : r.pair ≡ cond (passed r.fault) (first_misordered (pairs_of list)) 0
  -- "The lent space gets n bytes of counts."
  pub sized : length o' ≡ length o
  pub counts : passed r.fault ≡ true → (i : ℕ) → i < n → Predecessors (pairs_of list) (suc i) (get_or o' i 0)
  -- "A refusal leaves the space unchanged."
  pub unchanged : passed r.fault ≡ false → o' ≡ o
