-- One pass over the tasks closes masks under chains: Warshall's algorithm.
use mathlib.Core.Path.{◌≡◌, ap}
use mathlib.Core.Logic.{◌⊎◌, inl, inr}
use mathlib.Core.List.{List}
use Prim.Native.Nat.{ℕ, zero, suc, pred, ◌<◌}
use native.Mathlib.Omega.{arith}
use lib.Dec.{eqb}
use lib.ListN.{get_or, get_or-map}
use borrow.Author.Tests.{eqb-true, eq-eqb}
use Rattle.std.specs.Int.{bit_at}
use Rattle.std.proofs.lemmas.List.Elements.{All-contains}
use Rattle.std.proofs.lemmas.Nat.Bits.{bit_at-zero}
use Rattle.plan.specs.Tasks.{max_tasks}
use Rattle.plan.proofs.Tests.{bool, eq-or-ne}
use Rattle.precedence.specs.declared.pairs.Pair.{Pair}
use Rattle.precedence.specs.Chains.{Named, Chain}
use Rattle.precedence.specs.Chains.Chain.{one_pair, one_more}
use Rattle.precedence.specs.Inner.{OfTasks, AllOfTasks, bit_of, HasNamed, HasChains, joined, joined_through}
use Rattle.precedence.proofs.Bits.{set-either, set-left, set-right}

-- masks joined through the first tasks, so many
abbrev pub closed : ℕ → List ℕ → List ℕ
closed zero masks = masks
closed (suc j) masks = joined_through j (closed j masks)

chain-joined : {ps : List Pair} {k j i : ℕ} → Chain ps k j → Chain ps j i → Chain ps k i
chain-joined c (one_pair n) = one_more c n
chain-joined c (one_more d n) = one_more (chain-joined c d) n

-- a bit of joined masks
joined-bit : (j : ℕ) (masks : List ℕ) (i k : ℕ)
    → bit_of (joined_through j masks) i k ≡ bit_at (joined j masks (get_or masks i 0)) k
joined-bit j masks i k = ap (λ x. bit_at x k) (rw (bit_at-zero j) at (get_or-map (joined j masks) masks i 0))

module _ (j : ℕ) (masks : List ℕ) (i k : ℕ) where
  joined-either : bit_of (joined_through j masks) i k ≡ 1
      → (bit_of masks i k ≡ 1) ⊎ ((bit_of masks i j ≡ 1) × (bit_of masks j k ≡ 1))
  joined-either e = elim (bool (eqb (bit_of masks i j) 1)) [
    | inl z ↦ elim (set-either (get_or masks i 0) (get_or masks j 0) k (rw (joined-bit j masks i k, z) at e)) [
      | inl x ↦ inl x
      | inr x ↦ inr (eqb-true _ _ z, x)
    ]
    | inr z ↦ inl (rw (joined-bit j masks i k, z) at e)
  ]

  joined-kept : bit_of masks i k ≡ 1 → bit_of (joined_through j masks) i k ≡ 1
  joined-kept e = rw (joined-bit j masks i k) (elim (bool (eqb (bit_of masks i j) 1)) [
    | inl z ↦ rw z (set-left (get_or masks i 0) (get_or masks j 0) k e)
    | inr z ↦ rw z e
  ])

  joined-more : bit_of masks i j ≡ 1 → bit_of masks j k ≡ 1 → bit_of (joined_through j masks) i k ≡ 1
  joined-more e f = rw (joined-bit j masks i k, eq-eqb _ _ e) (set-right (get_or masks i 0) (get_or masks j 0) k f)

-- what is kept
closed-kept : (m : ℕ) (masks : List ℕ) (i k : ℕ) → bit_of masks i k ≡ 1 → bit_of (closed m masks) i k ≡ 1
closed-kept zero masks i k e = e
closed-kept (suc m) masks i k e = joined-kept m (closed m masks) i k (closed-kept m masks i k e)

-- closed under what leads through the first tasks
closed-through : (m : ℕ) (masks : List ℕ) (i j k : ℕ) → j < m → bit_of (closed m masks) i j ≡ 1
    → bit_of (closed m masks) j k ≡ 1 → bit_of (closed m masks) i k ≡ 1
closed-through zero masks i j k l a b = let z : ⊥ = omega arith in absurd z
closed-through (suc m) masks i j k l a b = elim (joined-either m (closed m masks) i j a) [
  | inl x ↦ elim (joined-either m (closed m masks) j k b) [
    | inl y ↦ elim (eq-or-ne j m) [
      | inl e ↦ joined-more m (closed m masks) i k (rw e at x) (rw e at y)
      | inr e ↦ joined-kept m (closed m masks) i k (closed-through m masks i j k (omega arith) x y)
    ]
    | inr y ↦ elim (eq-or-ne j m) [
      | inl e ↦ joined-more m (closed m masks) i k (rw e at x) y.1
      | inr e ↦ joined-more m (closed m masks) i k (closed-through m masks i j m (omega arith) x y.0) y.1
    ]
  ]
  | inr x ↦ elim (joined-either m (closed m masks) j k b) [
    | inl y ↦ elim (eq-or-ne j m) [
      | inl e ↦ joined-more m (closed m masks) i k x.0 (rw e at y)
      | inr e ↦ joined-more m (closed m masks) i k x.0 (closed-through m masks m j k (omega arith) x.1 y)
    ]
    | inr y ↦ joined-more m (closed m masks) i k x.0 y.1
  ]
]

-- the pairs are of tasks
module _ (ps : List Pair) (tasks : AllOfTasks max_tasks ps) (masks : List ℕ) (named : HasNamed ps masks) where
  of-tasks : {k i : ℕ} → Named ps k i → OfTasks max_tasks (record { predecessor = k; successor = i })
  of-tasks n = All-contains (OfTasks max_tasks) ps _ tasks n

  some-named : (i k : ℕ) → Named ps k i → bit_of masks (pred i) (pred k) ≡ 1
  some-named zero k n = let z : ⊥ = omega (arith, (of-tasks n).second) in absurd z
  some-named (suc i) zero n = let z : ⊥ = omega (arith, (of-tasks n).first) in absurd z
  some-named (suc i) (suc k) n = (named i k).1 n

  some-chain : {k i : ℕ} → Chain ps k i → bit_of (closed max_tasks masks) (pred i) (pred k) ≡ 1
  some-chain {k} {i} (one_pair n) = closed-kept max_tasks masks (pred i) (pred k) (some-named i k n)
  some-chain {k} {i} (one_more {j} c n) =
      let t = of-tasks n in
      closed-through max_tasks masks (pred i) (pred j) (pred k) (omega (arith, t.first, t.first_most))
      (closed-kept max_tasks masks (pred i) (pred j) (some-named i j n)) (some-chain c)

  chain-some : (m i k : ℕ) → bit_of (closed m masks) i k ≡ 1 → Chain ps (suc k) (suc i)
  chain-some zero i k e = one_pair ((named i k).0 e)
  chain-some (suc m) i k e = elim (joined-either m (closed m masks) i k e) [
    | inl x ↦ chain-some m i k x
    | inr x ↦ chain-joined (chain-some m m k x.1) (chain-some m i m x.0)
  ]

  pub closed-chains : HasChains ps (closed max_tasks masks)
  closed-chains i k = (chain-some max_tasks i k, some-chain)
