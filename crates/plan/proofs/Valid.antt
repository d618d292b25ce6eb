-- Valid tasks: what the rules 8 and 9 say of one, and what holds at any index, where a missing task is all zeros.
use mathlib.Core.Path.{◌≡◌}
use mathlib.Core.Bool.{◌&&◌, not}
use mathlib.Core.Logic.{inl, inr}
use mathlib.Core.List.{List}
use Prim.Native.Nat.{ℕ, suc, ◌≤◌}
use native.Mathlib.Omega.{arith}
use lib.Dec.{ltb, leb}
use lib.ListN.{length, get_or-eq_default}
use borrow.Author.Tests.{leb-true, ltb-false, not-false}
use Rattle.plan.specs.declared.tasks.Task.{Task}
use Rattle.plan.specs.Faults.{fault_if}
use Rattle.plan.specs.Tasks.{max_ticks, max_weight, max_blocking, max_jitter, between, within_limits, Valid, no_task, task_at, AllValid}
use Rattle.plan.specs.Files.{row_fault}
use Rattle.plan.proofs.Tests.{le-or-lt, and_left, and_right, between_le}
use Rattle.plan.proofs.Rules.{or-first, or-second, if-passed}

pub row-valid : (t : Task) (i : ℕ) → (row_fault t i).number ≡ 0 → Valid t
row-valid t i e =
    let f8 = fault_if (not (within_limits t)) 8 (suc i) in
    let f9 = fault_if (ltb t.period_max t.period_min) 9 (suc i) in
    let ok = not-false (within_limits t) (if-passed (not (within_limits t)) 7 (suc i) (or-first f8 f9 e)) in
    let le = if-passed (ltb t.period_max t.period_min) 8 (suc i) (or-second f8 f9 e) in
    let c = between 1 t.wcet max_ticks in
    let l = between 1 t.period_min max_ticks in
    let h = between 1 t.period_max max_ticks in
    let k = between 1 t.deadline_cap max_ticks in
    let w = leb t.weight max_weight in
    let b = leb t.blocking max_blocking in
    let j = leb t.jitter max_jitter in
    let from-w = w && (b && j) in
    let r1 = and_right c (l && (h && (k && from-w))) ok in
    let r2 = and_right l (h && (k && from-w)) r1 in
    let r3 = and_right h (k && from-w) r2 in
    let r4 = and_right k from-w r3 in
    let r5 = and_right w (b && j) r4 in
    let bc = between_le 1 t.wcet max_ticks (and_left c (l && (h && (k && from-w))) ok) in
    let bl = between_le 1 t.period_min max_ticks (and_left l (h && (k && from-w)) r1) in
    let bh = between_le 1 t.period_max max_ticks (and_left h (k && from-w) r2) in
    let bk = between_le 1 t.deadline_cap max_ticks (and_left k from-w r3) in
    record {
      wcet_some = bc.0;
      wcet_most = bc.1;
      min_some = bl.0;
      ordered = ltb-false t.period_max t.period_min le;
      max_most = bh.1;
      cap_some = bk.0;
      cap_most = bk.1;
      weight_most = leb-true t.weight max_weight (and_left w (b && j) r4);
      blocking_most = leb-true t.blocking max_blocking (and_left b j r5);
      jitter_most = leb-true t.jitter max_jitter (and_right b j r5);
    }

-- the limits that hold past the last task too
pub record ValidAt (ts : List Task) (k : ℕ) : Type 0 where
  pub ordered : (task_at ts k).period_min ≤ (task_at ts k).period_max
  pub max_most : (task_at ts k).period_max ≤ max_ticks
  pub weight_most : (task_at ts k).weight ≤ max_weight

pub valid-at : (ts : List Task) → AllValid ts → (k : ℕ) → ValidAt ts k
valid-at ts v k = elim (le-or-lt (length ts) k) [
  | inl p ↦ let e : task_at ts k ≡ no_task = get_or-eq_default ts no_task p in
      record {
        ordered = rw e (omega arith);
        max_most = rw e (omega arith);
        weight_most = rw e (omega arith);
      }
  | inr p ↦ let w = v k p in
      record {
        ordered = w.ordered;
        max_most = w.max_most;
        weight_most = w.weight_most;
      }
]
