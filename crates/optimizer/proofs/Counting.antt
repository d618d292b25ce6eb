-- The assignments within the bounds, listed and counted.
use mathlib.Core.Path.{◌≡◌, refl, ap, subst}
use mathlib.Core.Bool.{Bool, true, false, cond}
use mathlib.Core.Logic.{inl, inr}
use mathlib.Core.List.{List, [], ◌∷◌, ◌++◌, map}
use Prim.Native.Nat.{ℕ, zero, suc, ◌+◌, ◌-◌, ◌*◌, ◌≤◌, ◌<◌}
use native.Mathlib.Omega.{arith}
use lib.ListN.{length, length-append}
use Rattle.plan.specs.declared.tasks.Task.{Task}
use Rattle.plan.proofs.Tests.{bool, le-or-lt, eq-or-ne}
use Rattle.response.specs.Assignments.{assignment_count}
use Rattle.response.proofs.Bounds.{Within}
use Rattle.optimizer.specs.Nodes.{occurrences}
use Rattle.optimizer.proofs.Multiset.{Listed, listed-cases, listed_here, occurrences-append, length-le}

-- each of some with x in front; with x, x + 1, .. in front, so many
abbrev fronted : ℕ → List (List ℕ) → List (List ℕ)
fronted x ps = map (λ p. x ∷ p) ps

abbrev spread : ℕ → ℕ → List (List ℕ) → List (List ℕ)
spread zero x ps = []
spread (suc n) x ps = fronted x ps ++ spread n (suc x) ps

unfoldable pub assignments : List Task → List (List ℕ)
assignments [] = [] ∷ []
assignments (t ∷ ts) = spread (suc t.period_max - t.period_min) t.period_min (assignments ts)

length-fronted : (x : ℕ) (ps : List (List ℕ)) → length (fronted x ps) ≡ length ps
length-fronted x [] = refl
length-fronted x (p ∷ ps) = ap suc (length-fronted x ps)

length-spread : (n x : ℕ) (ps : List (List ℕ)) → length (spread n x ps) ≡ n * length ps
length-spread zero x ps = omega arith
length-spread (suc n) x ps =
    omega (arith, length-append (fronted x ps) (spread n (suc x) ps), length-fronted x ps, length-spread n (suc x) ps)

pub length-assignments : (ts : List Task) → length (assignments ts) ≡ assignment_count ts
unfolding assignments
length-assignments [] = refl
length-assignments (t ∷ ts) = rw (length-spread, length-assignments ts)

listed-fronted : (x : ℕ) (p : List ℕ) (ps : List (List ℕ)) → Listed p ps → Listed (x ∷ p) (fronted x ps)
listed-fronted x p [] h = h
listed-fronted x p (q ∷ ps) h = elim (listed-cases p q ps h) [
  | inl e ↦ subst (λ (r : List ℕ). Listed (x ∷ p) ((x ∷ r) ∷ fronted x ps)) e (listed_here (x ∷ p) (fronted x ps))
  | inr e ↦ omega (arith, listed-fronted x p ps e)
]

listed-spread : (n x y : ℕ) (p : List ℕ) (ps : List (List ℕ)) → x ≤ y → y < n + x → Listed p ps → Listed (y ∷ p) (spread n x ps)
listed-spread zero x y p ps a b h = let z : ⊥ = omega arith in absurd z
listed-spread (suc n) x y p ps a b h =
    let k = occurrences-append (y ∷ p) (fronted x ps) (spread n (suc x) ps) in
    elim (eq-or-ne y x) [
      | inl e ↦ let f : Listed (y ∷ p) (fronted x ps) = rw e (listed-fronted x p ps h) in omega arith
      | inr e ↦ omega (arith, k, listed-spread n (suc x) y p ps (omega arith) (omega arith) h)
    ]

pub listed-assignments : (ts : List Task) (xs : List ℕ) → Within ts xs → Listed xs (assignments ts)
unfolding assignments
listed-assignments [] [] w = listed_here [] []
listed-assignments [] (x ∷ xs) w = let z : ⊥ = omega (arith, w.sized) in absurd z
listed-assignments (t ∷ ts) [] w = let z : ⊥ = omega (arith, w.sized) in absurd z
listed-assignments (t ∷ ts) (x ∷ xs) w =
    listed-spread (suc t.period_max - t.period_min) t.period_min x xs (assignments ts)
    (w.low 0) (omega (arith, w.low 0, w.high 0))
    (listed-assignments ts xs (record { sized = omega (arith, w.sized); low = λ k. w.low (suc k); high = λ k. w.high (suc k) }))

-- distinct assignments within the bounds are no more than there are
pub few-within : (ts : List Task) (ps : List (List ℕ)) → ((p : List ℕ) → occurrences p ps ≤ 1)
    → ((p : List ℕ) → Listed p ps → Within ts p) → length ps ≤ assignment_count ts
few-within ts ps o w =
    let few : (p : List ℕ) → occurrences p ps ≤ occurrences p (assignments ts) = λ p. elim (le-or-lt 1 (occurrences p ps)) [
      | inl h ↦ omega (arith, o p, listed-assignments ts p (w p h))
      | inr h ↦ omega arith
    ] in
    omega (arith, length-assignments ts, length-le ps (assignments ts) few)

-- how many pass a test
unfoldable pub tally : (List ℕ → Bool) → List (List ℕ) → ℕ
tally f [] = 0
tally f (p ∷ ps) = cond (f p) 1 0 + tally f ps

pub tally-all : (f : List ℕ → Bool) (ps : List (List ℕ)) → tally f ps ≤ length ps
unfolding tally
tally-all f [] = omega arith
tally-all f (p ∷ ps) = let k = tally-all f ps in elim (bool (f p)) [ inl e ↦ rw e (omega arith) | inr e ↦ rw e (omega arith) ]

module _ (f g : List ℕ → Bool) (h : (p : List ℕ) → f p ≡ true → g p ≡ true) where
  one-le : (p : List ℕ) → cond {A = ℕ} (f p) 1 0 ≤ cond (g p) 1 0
  one-le p = elim (bool (f p)) [ inl e ↦ rw (e, h p e) (omega arith) | inr e ↦ rw e (omega arith) ]

  tally-le : (ps : List (List ℕ)) → tally f ps ≤ tally g ps
  unfolding tally
  tally-le [] = omega arith
  tally-le (p ∷ ps) = omega (arith, one-le p, tally-le ps)

  pub tally-less : (p : List ℕ) → f p ≡ false → g p ≡ true → (ps : List (List ℕ)) → Listed p ps → tally f ps < tally g ps
  unfolding tally
  tally-less p a b [] l = l
  tally-less p a b (q ∷ ps) l = elim (listed-cases p q ps l) [
    | inl e ↦ let a' : f q ≡ false = rw e at a in let b' : g q ≡ true = rw e at b in rw (a', b') (omega (arith, tally-le ps))
    | inr e ↦ omega (arith, one-le q, tally-less p a b ps e)
  ]
