-- The incumbent: that it stays schedulable and within the bounds, and with it the rule is lawful.
use mathlib.Core.Path.{◌≡◌, refl}
use mathlib.Core.Bool.{Bool, true}
use mathlib.Core.Logic.{inl, inr}
use mathlib.Core.List.{List}
use Prim.Native.Nat.{ℕ}
use Rattle.plan.specs.declared.tasks.Task.{Task}
use Rattle.plan.specs.Tasks.{period_maxs, weights}
use Rattle.plan.proofs.Tests.{bool}
use Rattle.response.specs.Assignments.{less}
use Rattle.response.proofs.Bounds.{Within, maxs-within}
use Rattle.boundary.specs.Lowering.{lowering}
use Rattle.boundary.proofs.Lowered.{lowering-meets}
use Rattle.boundary.proofs.Maximal.{mua-fails}
use Rattle.optimizer.specs.Search.{improved, children, rule}
use Rattle.optimizer.proofs.Optimal.{Lawful}
use Rattle.optimizer.proofs.Branching.{Sound, branches-of}

pub record Incumbent (ts : List Task) (test : List ℕ → Bool) (xs : List ℕ) : Type 0 where
  pub within : Within ts xs
  pub met : test xs ≡ true

module _ {ts : List Task} {test : List ℕ → Bool} (s : Sound ts test) (top : test (period_maxs ts) ≡ true) where
  pub incumbent-first : Incumbent ts test (period_maxs ts)
  incumbent-first = record { within = maxs-within ts s.ranged; met = top }

  incumbent-next : (xs node : List ℕ) → Incumbent ts test xs → Within ts node → Incumbent ts test (improved ts test xs node)
  incumbent-next xs node i w =
      let x = lowering test (period_maxs ts) node in
      let m = lowering-meets test w s.ranged top in
      elim (bool (less (weights ts) x xs)) [ inl e ↦ rw e (record { within = m.within; met = m.met }) | inr e ↦ rw e i ]

  pub lawful : Lawful ts test (rule ts test) (Incumbent ts test)
  unfolding children
  lawful = record {
    weighs = refl;
    ranged = s.ranged;
    top = top;
    answer = λ xs node c w e. e;
    carried = λ xs node c w e. incumbent-next xs node c w;
    branches = λ xs node c w e. branches-of s w (mua-fails test w e);
  }
