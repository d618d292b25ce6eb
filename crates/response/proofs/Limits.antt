-- What the limits of the time test are for, and that a period set within them keeps them; climbs within a limit, and the
-- busy period that one finds.
use mathlib.Core.Path.{◌≡◌, sym, ◌∙◌}
use mathlib.Core.Logic.{inl, inr}
use mathlib.Core.List.{List}
use Prim.Native.Nat.{ℕ, ◌+◌, ◌-◌, ◌≤◌, ◌<◌}
use native.Mathlib.Omega.{arith}
use lib.ListN.{length, set, length-set}
use lib.Seq.{get_or-set_same, get_or-set_other, set_out}
use Rattle.std.specs.Prelude.{Option, Some}
use Rattle.plan.specs.declared.tasks.Task.{Task}
use Rattle.plan.specs.Tasks.{max_ticks, task_at}
use Rattle.plan.proofs.Tests.{le-or-lt, eq-or-ne}
use Rattle.response.specs.Analysis.{own_demand, busy_up_to, max_response}
use Rattle.response.specs.Inner.{Limits, Begins, Climbs, some_time}
use Rattle.response.proofs.Exactness.{own-some, own-begins, busy-early}
use Rattle.response.proofs.Found.{found-some}

pub limits-set : {ts : List Task} {xs : List ℕ} → Limits ts xs → (i v : ℕ) → 1 ≤ v → v ≤ max_ticks → Limits ts (set xs i v)
limits-set {ts} {xs} l i v p q =
    elim (le-or-lt (length xs) i) [
      | inl o ↦ rw (set_out xs i v o) l
      | inr b ↦ record {
        valid = l.valid;
        few = l.few;
        sized = length-set xs i v ∙ l.sized;
        some = λ k h. elim (eq-or-ne k i) [
          | inl e ↦ rw (e, get_or-set_same xs i v 0 b) p
          | inr e ↦ rw (get_or-set_other xs i k v 0 e) (l.some k (rw (length-set xs i v) at h))
        ];
        most = λ k. elim (eq-or-ne k i)
            [ inl e ↦ rw (e, get_or-set_same xs i v 0 b) q | inr e ↦ rw (get_or-set_other xs i k v 0 e) (l.most k) ];
      }
    ]

-- a climb within a limit
pub climbs-within : {ts : List Task} {xs : List ℕ} {i limit start : ℕ} → i < length ts → limit ≤ max_response
    → Begins limit ts xs i start → Climbs (limit - (task_at ts i).jitter) ts xs i start
climbs-within h e b = record {
  inside = h;
  ends = omega arith;
  begins = record {
    some = b.some;
    below = λ t c. b.below t (record { some = c.some; early = omega (arith, c.some, c.early); covers = c.covers });
  };
}

-- a climb may begin at the task's own demand
pub climbs-own : {ts : List Task} {xs : List ℕ} → Limits ts xs → {i : ℕ} → i < length xs → {limit : ℕ} → limit ≤ max_response
    → Climbs (limit - (task_at ts i).jitter) ts xs i (own_demand (task_at ts i))
climbs-own {ts} {xs} l {i} h {limit} e =
    let inside : i < length ts = omega (arith, l.sized) in
    climbs-within inside e (own-begins limit ts xs i (own-some ts l.valid i inside))

-- a busy period that was found up to a limit
pub record FoundUpTo (limit : ℕ) (ts : List Task) (xs : List ℕ) (i t : ℕ) : Type 0 where
  pub is : t ≡ busy_up_to limit ts xs i
  pub some : 1 ≤ t
  pub early : t + (task_at ts i).jitter ≤ limit

pub found-up_to : {limit : ℕ} {ts : List Task} {xs : List ℕ} {i : ℕ} → Limits ts xs → i < length xs → {o : Option ℕ} {t : ℕ}
    → o ≡ some_time (busy_up_to limit ts xs i) → o ≡ Some t → FoundUpTo limit ts xs i t
found-up_to {limit} {ts} {xs} {i} l h e f =
    let d = found-some (busy_up_to limit ts xs i) (sym e ∙ f) in
    let w = own-some ts l.valid i (omega (arith, l.sized)) in
    record { is = d.0; some = d.1; early = omega (arith, d.0, d.1, busy-early limit ts xs i w) }
