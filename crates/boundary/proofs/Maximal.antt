-- The maximal unschedulable assignment of a node.
use mathlib.Core.Path.{◌≡◌}
use mathlib.Core.Bool.{Bool, true, false}
use mathlib.Core.Logic.{inl, inr}
use mathlib.Core.List.{List}
use Prim.Native.Nat.{ℕ, zero, suc, ◌+◌, ◌-◌, ◌≤◌, ◌<◌}
use native.Mathlib.Omega.{arith}
use native.Mathlib.Nat.{le_trans}
use lib.ListN.{length, get_or, set}
use Rattle.plan.specs.declared.tasks.Task.{Task}
use Rattle.plan.specs.Tasks.{period_maxs}
use Rattle.plan.proofs.Tests.{bool, eq-or-ne}
use Rattle.response.proofs.Dominance.{AtMost, at-most-set}
use Rattle.response.proofs.Bounds.{Within, within-set}
use Rattle.boundary.specs.Mua.{raised_from, raised, mua_from, mua}

-- u' is an unschedulable assignment within the bounds, at least u
pub record FailsAbove (ts : List Task) (test : List ℕ → Bool) (u u' : List ℕ) : Type 0 where
  pub within : Within ts u'
  pub above : AtMost u u'
  pub fails : test u' ≡ false

module _ {ts : List Task} (test : List ℕ → Bool) where
  module _ {u : List ℕ} (w : Within ts u) (e : test u ≡ false) where
    raised_from_lem : (i left v : ℕ) → get_or u i 0 + left ≤ suc v → v ≤ get_or (period_maxs ts) i 0
        → FailsAbove ts test u (raised_from left test u i v)
    raised_from_lem i zero v p q = record { within = w; above = λ k. omega arith; fails = e }
    raised_from_lem i (suc left) v p q = elim (bool (test (set u i v))) [
      | inl t ↦ rw (t, raised_from) (raised_from_lem i left (v - 1) (omega arith) (omega arith))
      | inr t ↦ rw (t, raised_from)
          (record { within = within-set w i v (omega (arith, w.low i)) q; above = at-most-set u i (omega arith); fails = t })
    ]

    raised-fails : (i : ℕ) → FailsAbove ts test u (raised test (period_maxs ts) u i)
    raised-fails i = let most = get_or (period_maxs ts) i 0 in
        raised_from_lem i (suc (most - get_or u i 0)) most (omega (arith, w.high i)) (omega arith)

  mua_from-fails : (left i : ℕ) {u : List ℕ} → Within ts u → test u ≡ false
      → FailsAbove ts test u (mua_from left test (period_maxs ts) u i)
  mua_from-fails zero i w e = record { within = w; above = λ k. omega arith; fails = e }
  mua_from-fails (suc left) i w e =
      let a = raised-fails w e i in
      let b = mua_from-fails left (suc i) a.within a.fails in
      record { within = b.within; above = λ k. le_trans (a.above k) (b.above k); fails = b.fails }

  pub mua-fails : {node : List ℕ} → Within ts node → test node ≡ false → FailsAbove ts test node (mua test (period_maxs ts) node)
  unfolding mua
  mua-fails {node} w e = mua_from-fails (length node) 0 w e

-- raising scans down from the maximum: it finds the value that fails while all above pass
module _ (test : List ℕ → Bool) (u : List ℕ) (i v : ℕ) (e : test (set u i v) ≡ false) where
  raised_from-is : (left x : ℕ) → v ≤ x → x < v + left → ((y : ℕ) → v < y → y ≤ x → test (set u i y) ≡ true)
      → raised_from left test u i x ≡ set u i v
  raised_from-is zero x a b h = let z : ⊥ = omega arith in absurd z
  raised_from-is (suc left) x a b h = elim (eq-or-ne v x) [
    | inl q ↦ let f : test (set u i x) ≡ false = rw q at e in rw (f, raised_from) (rw q)
    | inr q ↦ rw (h x (omega arith) (omega arith), raised_from)
        (raised_from-is left (x - 1) (omega arith) (omega arith) (λ y c d. h y c (omega arith)))
  ]

  pub raised_is : (maxs : List ℕ) → get_or u i 0 ≤ v → v ≤ get_or maxs i 0
      → ((y : ℕ) → v < y → y ≤ get_or maxs i 0 → test (set u i y) ≡ true) → raised test maxs u i ≡ set u i v
  raised_is maxs a b h = raised_from-is (suc (get_or maxs i 0 - get_or u i 0)) (get_or maxs i 0) b (omega arith) h
