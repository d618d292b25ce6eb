-- The versions of the file: how wide their rows are, and which one tasks need.
use mathlib.Core.Path.{◌≡◌, refl}
use mathlib.Core.Bool.{true, false, cond}
use mathlib.Core.Logic.{inl, inr}
use mathlib.Core.List.{List, [], ◌∷◌}
use Prim.Native.Nat.{ℕ, zero, suc, ◌≤◌, ◌<◌}
use native.Mathlib.Omega.{arith}
use lib.ListN.{length, take}
use lib.Seq.{length-take-le}
use borrow.Author.Tests.{eq-eqb, ne_eqb}
use Rattle.std.specs.List.{list_all}
use Rattle.plan.specs.declared.tasks.Task.{Task}
use Rattle.plan.specs.Layout.{row_numbers, row_size}
use Rattle.plan.specs.Tasks.{task_at}
use Rattle.plan.specs.Tasks.{row_of}
use Rattle.plan.specs.Canonical.{is_plain, version_for}
use Rattle.plan.proofs.Tests.{bool, eq-or-ne}

-- five numbers, or seven
pub numbers-five : (v : ℕ) → v ≡ 1 → row_numbers v ≡ 5
numbers-five v e = rw (eq-eqb v 1 e)

pub numbers-seven : (v : ℕ) → (v ≡ 1 → ⊥) → row_numbers v ≡ 7
numbers-seven v n = rw (ne_eqb v 1 n)

pub row-range : (v : ℕ) → (20 ≤ row_size v) × (row_size v ≤ 28)
row-range v = elim (eq-or-ne v 1) [
  | inl e ↦ (omega (arith, numbers-five v e), omega (arith, numbers-five v e))
  | inr n ↦ (omega (arith, numbers-seven v n), omega (arith, numbers-seven v n))
]

pub row-front : (v : ℕ) (t : Task) → length (take (row_numbers v) (row_of t)) ≡ row_numbers v
row-front v t = length-take-le (row_numbers v) (row_of t) (omega (arith, row-range v))

-- the version that tasks need, by the first of them that is not plain
module _ (t : Task) (ts : List Task) where
  first_plain : is_plain t ≡ true → version_for (t ∷ ts) ≡ version_for ts
  first_plain e = rw (e, version_for)

  first-not : is_plain t ≡ false → version_for (t ∷ ts) ≡ 2
  first-not e = rw (e, version_for)

pub version-range : (ts : List Task) → (1 ≤ version_for ts) × (version_for ts ≤ 2)
version-range [] = (omega arith, omega arith)
version-range (t ∷ ts) = elim (bool (is_plain t)) [
  | inl e ↦ rw (first_plain t ts e) (version-range ts)
  | inr e ↦ rw (first-not t ts e) (omega arith, omega arith)
]

-- in version 1 every task is plain
plain-from : (t : Task) (ts : List Task) → is_plain t ≡ true → ((k : ℕ) → k < length ts → is_plain (task_at ts k) ≡ true)
    → (i : ℕ) → i < length (t ∷ ts) → is_plain (task_at (t ∷ ts) i) ≡ true
plain-from t ts e rest zero h = e
plain-from t ts e rest (suc k) h = rest k (omega arith)

pub all_plain : (ts : List Task) → version_for ts ≡ 1 → (i : ℕ) → i < length ts → is_plain (task_at ts i) ≡ true
all_plain [] v i h = let z : ⊥ = omega arith in absurd z
all_plain (t ∷ ts) v i h = elim (bool (is_plain t)) [
  | inl e ↦ plain-from t ts e (all_plain ts (rw (first_plain t ts e) at v)) i h
  | inr e ↦ let z : ⊥ = omega (arith, first-not t ts e) in absurd z
]

-- it is 1 where every task is plain, else 2
pub version-is : (ts : List Task) → version_for ts ≡ cond (list_all is_plain ts) 1 2
version-is [] = refl
version-is (t ∷ ts) = elim (bool (is_plain t)) [
  | inl e ↦ rw (first_plain t ts e, e) (version-is ts)
  | inr e ↦ rw (first-not t ts e, e) refl
]
