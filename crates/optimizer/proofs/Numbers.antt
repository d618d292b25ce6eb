-- Refusals as numbers: a call's own have at most 32, a stop 33 or 34.
use Prim.Native.Nat.{◌≤◌}
use native.Mathlib.Omega.{arith}
use Rattle.optimizer.specs.declared.errors.CallError.{CallError}
use Rattle.optimizer.specs.declared.errors.CallError.TheVariants.{Read, PeriodsLength, WorkLength, InfeasibleAlone, Infeasible}
use Rattle.optimizer.specs.Answers.{call_error_fault}
use Rattle.plan.proofs.Numbers.{read-error-numbers}

pub call-error-numbers : (e : CallError) → (1 ≤ (call_error_fault e).number) × ((call_error_fault e).number ≤ 32)
call-error-numbers (Read e) = (omega (arith, read-error-numbers e), omega (arith, read-error-numbers e))
call-error-numbers PeriodsLength = (omega arith, omega arith)
call-error-numbers WorkLength = (omega arith, omega arith)
call-error-numbers (InfeasibleAlone task) = (omega arith, omega arith)
call-error-numbers (Infeasible task) = (omega arith, omega arith)
