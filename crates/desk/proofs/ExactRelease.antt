-- Without jitter the block carries the outcome by the time test of exact release.
use mathlib.Core.Path.{◌≡◌}
use mathlib.Core.List.{List}
use Prim.Native.Nat.{ℕ}
use lib.ListN.{length}
use Rattle.plan.specs.Files.{file_fault, tasks_of}
use Rattle.response.specs.ExactRelease.{WithoutJitter}
use Rattle.optimizer.specs.Promises.{exact_outcome_of}
use Rattle.optimizer.proofs.ExactRelease.{exact-outcome}
use Rattle.desk.specs.Promises.{desk_work, desk_outcome}

pub exact_desk : (s : List ℕ) (budget : ℕ) → let ts = tasks_of s in WithoutJitter ts
    → desk_outcome s budget ≡ exact_outcome_of (file_fault s) ts budget (length ts) desk_work
exact_desk s budget n = exact-outcome (tasks_of s) n (file_fault s) (length (tasks_of s)) desk_work budget
