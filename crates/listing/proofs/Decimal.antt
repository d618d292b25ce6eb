-- The digits of a number, as the library prints them.
use mathlib.Core.Path.{◌≡◌}
use mathlib.Core.Logic.{inl, inr}
use Prim.Native.Nat.{ℕ, zero, suc, ◌/◌, ◌%◌, ◌^◌, ◌<◌}
use native.Mathlib.Omega.{arith}
use borrow.Author.Tests.{lt-ltb, le-ltb}
use Rattle.std.specs.Fmt.{decimal as printed}
use Rattle.std.proofs.lemmas.Fmt.{decimal_digit, decimal_step}
use Rattle.plan.proofs.Tests.{le-or-lt}
use Rattle.listing.specs.Text.{decimal_of, decimal}

printed-digit : (most n : ℕ) → n < 10 → printed n ≡ decimal_of (suc most) n
printed-digit most n h = let e : n % 10 ≡ n = omega arith in rw (lt-ltb n 10 h, decimal_digit n h, e)

printed-digits : (most n : ℕ) → n < 10 ^ suc most → n < 2 ^ 64 → printed n ≡ decimal_of (suc most) n
printed-digits zero n few small = printed-digit zero n few
printed-digits (suc most) n few small = elim (le-or-lt 10 n) [
  | inr h ↦ printed-digit (suc most) n h
  | inl h ↦ rw (le-ltb n 10 h, decimal_step n h small, printed-digits most (n / 10) (omega arith) (omega arith))
]

pub printed_decimal : (n : ℕ) → n < 2 ^ 64 → printed n ≡ decimal n
unfolding decimal
printed_decimal n small = printed-digits 19 n (omega arith) small
