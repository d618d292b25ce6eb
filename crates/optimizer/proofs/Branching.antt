-- The children of a node: its periods one at a time one above those of its maximal unschedulable assignment.
use mathlib.Core.Path.{◌≡◌, sym, ap, ◌∙◌}
use mathlib.Core.Bool.{Bool, true}
use mathlib.Core.Logic.{inl, inr}
use mathlib.Core.List.{List}
use Prim.Native.Nat.{ℕ, zero, suc, ◌+◌, ◌≤◌, ◌<◌}
use native.Mathlib.Omega.{arith}
use lib.Dec.{ltb}
use lib.ListN.{length, get_or}
use lib.Seq.{get_or-set_same, get_or-set_other}
use borrow.Author.Tests.{ltb-true, lt-ltb}
use Rattle.plan.specs.declared.tasks.Task.{Task}
use Rattle.plan.specs.Lists.{same}
use Rattle.plan.specs.Tasks.{period_mins, period_maxs}
use Rattle.plan.proofs.Tests.{bool, le-or-lt, eq-or-ne, both}
use Rattle.response.proofs.Dominance.{same-eq, AtMost, at-most-or, at-most-set, set-at-most}
use Rattle.response.proofs.Bounds.{Within, within-set}
use Rattle.boundary.proofs.Maximal.{FailsAbove}
use Rattle.optimizer.specs.Nodes.{occurrences}
use Rattle.optimizer.specs.Search.{child, children_from}
use Rattle.optimizer.proofs.Multiset.{Listed, listed-cases, listed_here}
use Rattle.optimizer.proofs.Optimal.{Branches}

-- what is asked of tasks and of a time test: no minimum above its maximum, and longer periods never make an assignment unschedulable
pub record Sound (ts : List Task) (test : List ℕ → Bool) : Type 0 where
  pub ranged : AtMost (period_mins ts) (period_maxs ts)
  pub monotone : (xs ys : List ℕ) → Within ts xs → Within ts ys → AtMost xs ys → test xs ≡ true → test ys ≡ true

module _ (maxs node u : List ℕ) where
  -- c is the child of a task, from some on and below n, whose period can go up
  record ChildOf (from n : ℕ) (c : List ℕ) : Type 0 where
    task : ℕ
    later : from ≤ task
    inside : task < n
    raises : get_or u task 0 < get_or maxs task 0
    is : c ≡ child node u task

  sooner : (i n : ℕ) {c : List ℕ} → ChildOf (suc i) n c → ChildOf i n c
  sooner i n k =
      record { task = k.task; later = omega (arith, k.later); inside = k.inside; raises = k.raises; is = k.is }

  child-of : (n left i : ℕ) (c : List ℕ) → left + i ≤ n → Listed c (children_from left maxs node u i) → ChildOf i n c
  child-of n zero i c r h = let z : ⊥ = omega arith in absurd z
  child-of n (suc left) i c r h = elim (bool (ltb (get_or u i 0) (get_or maxs i 0))) [
    | inl e ↦ elim (listed-cases c (child node u i) (children_from left maxs node u (suc i)) (rw (e, children_from) at h)) [
      | inl q ↦ record { task = i; later = omega arith; inside = omega arith; raises = ltb-true _ _ e; is = q }
      | inr q ↦ sooner i n (child-of n left (suc i) c (omega arith) q)
    ]
    | inr e ↦ sooner i n (child-of n left (suc i) c (omega arith) (rw (e, children_from) at h))
  ]

  child-listed : (left i m : ℕ) → i ≤ m → m < left + i → get_or u m 0 < get_or maxs m 0
      → Listed (child node u m) (children_from left maxs node u i)
  child-listed zero i m p q h = let z : ⊥ = omega arith in absurd z
  child-listed (suc left) i m p q h = elim (eq-or-ne i m) [
    | inl e ↦ let t : ltb (get_or u i 0) (get_or maxs i 0) ≡ true = rw e (lt-ltb _ _ h) in
        rw (t, children_from) (rw e (listed_here (child node u m) (children_from left maxs node u (suc m))))
    | inr e ↦ let k = child-listed left (suc i) m (omega arith) (omega arith) h in
        elim (bool (ltb (get_or u i 0) (get_or maxs i 0))) [
          | inl t ↦ rw (t, children_from) (omega (arith, k))
          | inr t ↦ rw (t, children_from) k
        ]
  ]

  module _ (a : AtMost node u) where
    child-at : (i : ℕ) → i < length node → get_or (child node u i) i 0 ≡ suc (get_or u i 0)
    child-at i h = get_or-set_same node i (suc (get_or u i 0)) 0 h

    -- the children of two tasks differ
    child-other : (i j : ℕ) → i < length node → i < j → child node u i ≡ child node u j → ⊥
    child-other i j h l e =
        let o = get_or-set_other node j i (suc (get_or u j 0)) 0 (λ f. omega arith) in
        omega (arith, ap (λ (x : List ℕ). get_or x i 0) e, child-at i h, a i)

    child-once : (left i : ℕ) (c : List ℕ) → left + i ≤ length node → occurrences c (children_from left maxs node u i) ≤ 1
    child-once zero i c r = omega arith
    child-once (suc left) i c r =
        let k = child-once left (suc i) c (omega arith) in
        elim (bool (ltb (get_or u i 0) (get_or maxs i 0))) [
          | inr t ↦ rw (t, children_from) k
          | inl t ↦ rw (t, children_from) (elim (bool (same c (child node u i))) [
            | inr s ↦ rw s (omega arith)
            | inl s ↦ elim (le-or-lt 1 (occurrences c (children_from left maxs node u (suc i)))) [
              | inr h ↦ rw s (omega arith)
              | inl h ↦ let q = child-of (length node) left (suc i) c (omega arith) h in
                  absurd (child-other i q.task (omega arith) q.later (sym (same-eq c (child node u i) s) ∙ q.is))
            ]
          ])
        ]

module _ {ts : List Task} {test : List ℕ → Bool} (𝓢 : Sound ts test) where
  -- any unschedulable assignment above a node gives children that branch it
  pub branches-of : {node u : List ℕ} → Within ts node → FailsAbove ts test node u
      → Branches ts test node (children_from (length node) (period_maxs ts) node u 0)
  branches-of {node} {u} w f =
      let n = length node in
      let maxs = period_maxs ts in
      let raised : (c : List ℕ) → Listed c (children_from n maxs node u 0) → ChildOf maxs node u 0 n c =
      λ c h. child-of maxs node u n n 0 c (omega arith) h in
      record {
        within = λ c h. let q = raised c h in
            rw q.is (within-set w q.task (suc (get_or u q.task 0)) (omega (arith, f.above q.task, w.low q.task)) q.raises);
        above = λ c h. let q = raised c h in rw q.is (at-most-set node q.task (omega (arith, f.above q.task)));
        other = λ c h e. let q = raised c h in let i = q.task in
            omega (arith, ap (λ (x : List ℕ). get_or x i 0) (e ∙ q.is), child-at maxs node u f.above i q.inside, f.above i);
        once = λ c. child-once maxs node u f.above n 0 c (omega arith);
        below = λ xs v t a. elim (at-most-or xs u (v.sized ∙ sym f.within.sized)) [
          | inl b ↦ absurd (both (𝓢.monotone xs u v f.within b t) f.fails)
          | inr m ↦ (
            child node u m.0,
            child-listed maxs node u n 0 m.0 (omega arith) (omega (arith, v.sized, w.sized)) (omega (arith, v.high m.0)),
            set-at-most node xs m.0 a m.2,
          )
        ];
      }
