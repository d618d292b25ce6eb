-- A mask's bits, one by one and counted.
use mathlib.Core.Path.{◌≡◌, refl, sym, ap, ◌∙◌}
use mathlib.Core.Logic.{◌⊎◌, inl, inr}
use Prim.Native.Nat.{ℕ, zero, suc, ◌+◌, ◌*◌, ◌%◌, ◌^◌, ◌<◌, max}
use native.Mathlib.Omega.{arith}
use native.Mathlib.Numerals.{one-add}
use Rattle.std.proofs.Math.Nat.{mod-eq_of_lt}
use lib.Count.{ones}
use Rattle.std.specs.Prelude.{count_ones, bit_or}
use Rattle.std.specs.Int.{bit_at}
use Rattle.std.proofs.lemmas.Nat.{or_comm, pow_pos, mod-pow-add, mod_below, ones_cat}
use Rattle.plan.proofs.Tests.{eq-or-ne}
use Rattle.std.proofs.lemmas.Nat.Bits.{bit_at-lt, bit_at_or}
use Rattle.precedence.specs.Chains.{ones_below}

-- a bit of a union
max-one : (x y : ℕ) → x < 2 → y < 2 → max x y ≡ 1 → (x ≡ 1) ⊎ (y ≡ 1)
max-one x y p q e = elim (eq-or-ne x 1) [ inl z ↦ inl z | inr z ↦ inr (omega arith) ]

pub set-either : (a b k : ℕ) → bit_at (bit_or a b) k ≡ 1 → (bit_at a k ≡ 1) ⊎ (bit_at b k ≡ 1)
set-either a b k e = max-one _ _ (bit_at-lt a k) (bit_at-lt b k) (sym (bit_at_or a b k) ∙ e)

max-left : (x y : ℕ) → y < 2 → x ≡ 1 → max x y ≡ 1
max-left x y q e = omega arith

pub set-left : (a b k : ℕ) → bit_at a k ≡ 1 → bit_at (bit_or a b) k ≡ 1
set-left a b k e = bit_at_or a b k ∙ max-left _ _ (bit_at-lt b k) e

pub set-right : (a b k : ℕ) → bit_at b k ≡ 1 → bit_at (bit_or a b) k ≡ 1
set-right a b k e = rw (or_comm a b) (set-left b a k e)

-- the ones of a number's low bits
one-bit : (bit : ℕ) → bit < 2 → count_ones bit ≡ bit
unfolding ones
one-bit zero h = refl
one-bit (suc zero) h = refl
one-bit (suc (suc bit)) h = let z : ⊥ = omega arith in absurd z

ones-low : (n mask : ℕ) → count_ones (mask % 2 ^ n) ≡ ones_below n mask
ones-low zero mask = let e : mask % 1 ≡ 0 = omega arith in rw e (one-bit 0 (omega arith))
ones-low (suc n) mask =
    let bit : ℕ = bit_at mask n in
    let e : mask % 2 ^ suc n ≡ bit * 2 ^ n + mask % 2 ^ n = rw one-add at (mod-pow-add mask 1 n) in
    rw (e, ones_cat n bit (mask % 2 ^ n) (mod_below mask (2 ^ n) (pow_pos n)))
    (omega (arith, ones-low n mask, one-bit bit (bit_at-lt mask n)))

pub ones-below : (n mask : ℕ) → mask < 2 ^ n → count_ones mask ≡ ones_below n mask
ones-below n mask h = ap count_ones (sym (mod-eq_of_lt h)) ∙ ones-low n mask
