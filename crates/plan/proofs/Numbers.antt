-- Refusals as numbers: a file's own have 1 to 11, and 0 is none.
use mathlib.Core.Path.{◌≡◌}
use Prim.Native.Nat.{◌≤◌}
use native.Mathlib.Omega.{arith}
use Rattle.plan.specs.declared.faults.Fault.{Fault}
use Rattle.plan.specs.declared.errors.ReadError.{ReadError}
use Rattle.plan.specs.declared.errors.ReadError.TheVariants.{FileLength, Version, TaskCount, TotalLength, RowsOutside}
use Rattle.plan.specs.declared.errors.ReadError.TheVariants.{NamesOutside, AreasOverlap, StrayByte, OutsideLimits}
use Rattle.plan.specs.declared.errors.ReadError.TheVariants.{PeriodsReversed, BadName, SameName}
use Rattle.plan.specs.Faults.{or_else}
use Rattle.plan.specs.Errors.{read_error_fault}
use Rattle.plan.proofs.Rules.{or-here}

pub read-error-numbers : (e : ReadError) → (1 ≤ (read_error_fault e).number) × ((read_error_fault e).number ≤ 11)
read-error-numbers FileLength = (omega arith, omega arith)
read-error-numbers Version = (omega arith, omega arith)
read-error-numbers TaskCount = (omega arith, omega arith)
read-error-numbers TotalLength = (omega arith, omega arith)
read-error-numbers RowsOutside = (omega arith, omega arith)
read-error-numbers NamesOutside = (omega arith, omega arith)
read-error-numbers AreasOverlap = (omega arith, omega arith)
read-error-numbers (StrayByte offset) = (omega arith, omega arith)
read-error-numbers (OutsideLimits task) = (omega arith, omega arith)
read-error-numbers (PeriodsReversed task) = (omega arith, omega arith)
read-error-numbers (BadName task) = (omega arith, omega arith)
read-error-numbers (SameName task) = (omega arith, omega arith)

-- so the fault of a file's error is the first of those that are tested from there on
pub read_error_first : (e : ReadError) (f g : Fault) → read_error_fault e ≡ f → or_else f g ≡ read_error_fault e
read_error_first e f g h = rw (← h) (or-here (read_error_fault e) g (λ z. omega (arith, read-error-numbers e)))
