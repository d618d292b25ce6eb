-- Rounding up: ceiling a p is the least k with a ≤ k * p, by the first two laws, from which the others come.
use mathlib.Core.Path.{◌≡◌}
use mathlib.Core.Logic.{inl, inr}
use Prim.Native.Nat.{ℕ, zero, suc, ◌+◌, ◌*◌, ◌/◌, ◌≤◌, ◌<◌}
use native.Mathlib.Omega.{arith}
use native.Mathlib.Nat.{le_trans, mul-le-mul_left, div-lt_iff_lt-mul, lt-div-mul-add}
use Rattle.plan.proofs.Tests.{le-or-lt}
use Rattle.response.specs.Analysis.{ceiling}

pub ceiling-le : (a p k : ℕ) → 1 ≤ p → a ≤ k * p → ceiling a p ≤ k
ceiling-le a zero k s h = omega arith
ceiling-le a (suc p) k s h =
    let z : 0 < suc p = omega arith in
    let l : a + p < suc k * suc p = omega arith in
    let r : (a + p) / suc p < suc k = (div-lt_iff_lt-mul z).1 l in
    omega arith

pub le-ceiling : (a p : ℕ) → 1 ≤ p → a ≤ ceiling a p * p
le-ceiling a zero s = absurd (let z : ⊥ = omega arith in z)
le-ceiling a (suc p) s = let z : 0 < suc p = omega arith in let l = lt-div-mul-add {a = a + p} z in omega arith

pub ceiling-monotone : (a b p : ℕ) → a ≤ b → ceiling a p ≤ ceiling b p
ceiling-monotone a b zero h = omega arith
ceiling-monotone a b (suc p) h =
    let s : 1 ≤ suc p = omega arith in ceiling-le a (suc p) (ceiling b (suc p)) s (omega (arith, le-ceiling b (suc p) s))

pub ceiling-antitone : (a p q : ℕ) → 1 ≤ p → p ≤ q → ceiling a q ≤ ceiling a p
ceiling-antitone a p q s l = ceiling-le a q (ceiling a p) (omega arith) (le_trans (le-ceiling a p s) (mul-le-mul_left (ceiling a p) l))

pub ceiling-some : (a p : ℕ) → 1 ≤ a → 1 ≤ p → 1 ≤ ceiling a p
ceiling-some a p h s = elim (le-or-lt 1 (ceiling a p)) [
  | inl l ↦ l
  | inr l ↦ let e : ceiling a p ≡ 0 = omega arith in let z : a ≤ 0 * p = rw e at (le-ceiling a p s) in omega arith
]
