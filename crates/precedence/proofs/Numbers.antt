-- Refusals as numbers.
use Prim.Native.Nat.{◌≤◌}
use native.Mathlib.Omega.{arith}
use Rattle.plan.proofs.Numbers.{read-error-numbers}
use Rattle.precedence.specs.declared.errors.PrecedenceError.{PrecedenceError}
use Rattle.precedence.specs.declared.errors.PrecedenceError.TheVariants.{Read, ListLength, NoSuchTask, SpaceLength}
use Rattle.precedence.specs.Errors.{precedence_error_fault}

pub precedence-error-number : (e : PrecedenceError) → 1 ≤ (precedence_error_fault e).number
precedence-error-number (Read e) = (read-error-numbers e).0
precedence-error-number ListLength = omega arith
precedence-error-number (NoSuchTask pair) = omega arith
precedence-error-number SpaceLength = omega arith
