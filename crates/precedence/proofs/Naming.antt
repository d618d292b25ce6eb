-- Masks of the tasks that pairs name, pair by pair.
use mathlib.Core.Path.{◌≡◌, refl, sym, ap, ◌∙◌}
use mathlib.Core.Logic.{inl, inr}
use mathlib.Core.List.{List, [], ◌∷◌, ◌++◌}
use Prim.Native.Nat.{ℕ, suc, ◌-◌, ◌*◌, ◌%◌, ◌^◌, ◌<◌}
use native.Mathlib.Omega.{arith}
use lib.ListN.{length, get_or, set}
use Rattle.std.specs.Prelude.{bit_or}
use Rattle.std.specs.Int.{bit_at, w16}
use Rattle.std.proofs.lemmas.List.{get_or-set_same, get_or-set_other}
use Rattle.std.proofs.lemmas.List.Elements.{Contains-append_left, Contains-push, Contains-push_cases}
use Rattle.std.proofs.lemmas.Nat.Bits.{bit_at_set_same, bit_at_set_other}
use Rattle.plan.specs.Tasks.{max_tasks}
use Rattle.plan.proofs.Tests.{eq-or-ne}
use Rattle.precedence.specs.declared.pairs.Pair.{Pair}
use Rattle.precedence.specs.Inner.{OfTasks, bit_of, HasNamed}

-- the masks after one more pair
module _ (ps : List Pair) (masks : List ℕ) (named : HasNamed ps masks) (p : Pair) (tasks : OfTasks max_tasks p)
    (sized : length masks ≡ max_tasks) where
  -- task and bit, counted from 0
  abbrev task : ℕ
  task = p.successor - 1

  abbrev bit : ℕ
  bit = p.predecessor - 1

  abbrev mask : ℕ
  mask = bit_or (get_or masks task 0) (1 * 2 ^ bit % 65536)

  abbrev marked : List ℕ
  marked = set masks task mask

  mask-at : get_or marked task 0 ≡ mask
  mask-at = get_or-set_same masks task mask 0 (omega (arith, tasks.second, tasks.second_most))

  bit-inside : bit < max_tasks
  bit-inside = omega (arith, tasks.first, tasks.first_most)

  here : {i k : ℕ} → i ≡ task → k ≡ bit → bit_of marked i k ≡ 1
  here x y = rw (x, y, mask-at) (bit_at_set_same w16 (get_or masks task 0) bit bit-inside)

  -- whether a bit is that of p
  data Which (i k : ℕ) : Type 0 where
    same : i ≡ task → k ≡ bit → Which i k
    other : bit_of marked i k ≡ bit_of masks i k → Which i k

  which : (i k : ℕ) → Which i k
  which i k = elim (eq-or-ne i task) [
    | inr e ↦ other (ap (λ x. bit_at x k) (get_or-set_other masks task i mask 0 e))
    | inl e ↦ elim (eq-or-ne k bit) [
      | inl f ↦ same e f
      | inr f ↦ other (rw (e, mask-at) (bit_at_set_other w16 (get_or masks task 0) bit bit-inside k f))
    ]
  ]

  pair-is : {i k : ℕ} → i ≡ task → k ≡ bit → p ≡ record { predecessor = suc k; successor = suc i }
  pair-is {i} {k} e f =
      let a : p.predecessor ≡ suc k = omega (arith, tasks.first) in
      let b : p.successor ≡ suc i = omega (arith, tasks.second) in
      rw (← a, ← b) refl

  pub one-more-named : HasNamed (ps ++ p ∷ []) marked
  one-more-named i k = (
    λ e. elim (which i k) [
      | same x y ↦ rw (← pair-is x y) (Contains-push ps p)
      | other x ↦ Contains-append_left ps (p ∷ []) _ ((named i k).0 (sym x ∙ e))
    ],
    λ n. elim (Contains-push_cases ps p _ n) [
      | inr e ↦ here (omega (arith, ap (λ q. q.successor) e)) (omega (arith, ap (λ q. q.predecessor) e))
      | inl m ↦ elim (which i k) [ same x y ↦ here x y | other x ↦ x ∙ (named i k).1 m ]
    ],
  )
