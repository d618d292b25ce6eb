-- Where the climb of a task may begin, by the busy period of a task above it.
use mathlib.Core.Path.{◌≡◌}
use mathlib.Core.Bool.{false}
use mathlib.Core.Logic.{inl, inr}
use mathlib.Core.List.{List}
use Prim.Native.Nat.{ℕ, suc, ◌+◌, ◌-◌, ◌≤◌, ◌<◌}
use native.Mathlib.Omega.{arith}
use lib.Dec.{eqb}
use lib.ListN.{length, get_or}
use borrow.Author.Tests.{le-leb, lt-leb, ne_eqb}
use Rattle.plan.specs.declared.tasks.Task.{Task}
use Rattle.plan.specs.Tasks.{task_at, AllValid}
use Rattle.plan.proofs.Tests.{le-or-lt}
use Rattle.response.specs.Analysis.{own_demand}
use Rattle.response.specs.Inner.{Begins}
use Rattle.response.proofs.Exactness.{own-some, own-begins}
use Rattle.response.proofs.Sustainable.{begins-below}
use Rattle.boundary.specs.Inner.{begin_at, begin_below}

module _ {ts : List Task} (v : AllValid ts) (x : List ℕ) (p : (k : ℕ) → k < length ts → 1 ≤ get_or x k 0) where
  -- any task above
  pub begins-under : {j i : ℕ} → j < i → i < length ts → {limit most r : ℕ} → r + (task_at ts j).jitter ≤ limit → Begins limit ts x j r
      → Begins most ts x i (begin_below (task_at ts i) (task_at ts j) r)
  begins-under {j} {i} l h e b =
      let own = own_demand (task_at ts i) in
      let blocking = (task_at ts j).blocking in
      elim (le-or-lt blocking own) [
        | inl o ↦ rw (le-leb blocking own o)
            (begins-below ts x j i l (λ k c. p k (omega arith)) o (own-some ts v j (omega arith)) e b)
        | inr o ↦ rw (lt-leb blocking own o) (own-begins _ ts x i (own-some ts v i h))
      ]

  -- the one right above
  pub begins-next : {i : ℕ} → suc i < length ts → {limit most r : ℕ} → r + (task_at ts i).jitter ≤ limit → Begins limit ts x i r
      → Begins most ts x (suc i) (begin_at ts (suc i) r)
  begins-next {i} h e b =
      let later : eqb (suc i) 0 ≡ false = ne_eqb (suc i) 0 (λ z. omega arith) in
      let here : suc i - 1 ≡ i = omega arith in
      rw (later, here) (begins-under (omega arith) h e b)
