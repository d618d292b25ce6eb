-- Slack: that it tells what the definition of demand 2 says, and that the climb may be left past the deadline.
use mathlib.Core.Path.{◌≡◌, refl, ap, ◌∙◌}
use mathlib.Core.Bool.{true, false, not}
use mathlib.Core.Logic.{inl, inr}
use mathlib.Core.List.{List}
use Prim.Native.Nat.{ℕ, zero, suc, ◌+◌, ◌≤◌, ◌<◌}
use native.Mathlib.Omega.{arith}
use lib.Dec.{leb}
use lib.ListN.{get_or}
use borrow.Author.Tests.{le-leb, lt-leb}
use Rattle.std.specs.Prelude.{None, ℤ, pos, ◌-ℤ◌, ◌≤ℤ◌, int_lt, int_le}
use Rattle.std.proofs.lemmas.Int.{ints}
use Rattle.plan.specs.declared.tasks.Task.{Task}
use Rattle.plan.specs.Tasks.{task_at, Valid}
use Rattle.plan.proofs.Tests.{le-or-lt, not-false}
use Rattle.response.specs.Analysis.{deadline_at, busy_up_to, max_response, response_of, response_time, no_slack, slack_of, slack, meets}
use Rattle.response.specs.Claims.{Covers, IsSlack}
use Rattle.response.specs.Inner.{Begins, busy_in_time, some_time}
use Rattle.response.proofs.Exactness.{IsBusy, busy-exact}

-- below 0, or 0 or more
pub late-not : (s : ℤ) → int_lt s (pos 0) ≡ not (int_le (pos 0) s)
late-not s = grind (arith, ints)

pub slack-is : (d r : ℕ) → 1 ≤ r → slack_of d r ≡ pos d -ℤ pos r
slack-is d zero h = let z : ⊥ = omega arith in absurd z
slack-is d (suc r) h = refl

slack-none : (d r : ℕ) → r < 1 → slack_of d r ≡ no_slack
slack-none d zero h = refl
slack-none d (suc r) h = let z : ⊥ = omega arith in absurd z

-- a response by the busy period
response-is : (task : Task) (r : ℕ) → 1 ≤ r → response_of task r ≡ r + task.jitter
response-is task zero h = let z : ⊥ = omega arith in absurd z
response-is task (suc r) h = refl

response-none : (task : Task) (r : ℕ) → r < 1 → response_of task r ≡ 0
response-none task zero h = refl
response-none task (suc r) h = let z : ⊥ = omega arith in absurd z

module _ (ts : List Task) (xs : List ℕ) (i : ℕ) (v : Valid (task_at ts i)) where
  abbrev d : ℕ
  d = deadline_at ts xs i

  abbrev r : ℕ
  r = busy_up_to max_response ts xs i

  abbrev s : ℤ
  s = slack ts xs i

  response-some : 1 ≤ r → response_time ts xs i ≡ r + (task_at ts i).jitter
  response-some h = response-is (task_at ts i) r h

  slack-some : 1 ≤ r → s ≡ pos d -ℤ pos (r + (task_at ts i).jitter)
  slack-some h = rw (response-some h) (slack-is d (r + (task_at ts i).jitter) (omega arith))

  unanswered : r < 1 → s ≡ no_slack
  unanswered h = slack-none d (response_time ts xs i) (omega (arith, response-none (task_at ts i) r h))

  any : IsBusy max_response ts xs i r
  any = busy-exact max_response ts xs i (omega (arith, v.wcet_some))

  -- no response time passes the longest one
  pub response-early : response_time ts xs i ≤ max_response
  response-early = elim (le-or-lt 1 r) [
    | inl h ↦ omega (arith, response-some h, (any.covers h).early)
    | inr h ↦ omega (arith, response-none (task_at ts i) r h)
  ]

  -- none where a climb would begin past that
  pub response-past : {t : ℕ} → Begins max_response ts xs i t → max_response < t → None ≡ some_time (response_time ts xs i)
  response-past b h = elim (le-or-lt 1 r) [
    | inl l ↦ let c = any.covers l in absurd (omega (arith, c.early, b.below r c))
    | inr l ↦ let e : 0 ≡ response_time ts xs i = omega (arith, response-none (task_at ts i) r l) in ap some_time e
  ]

  -- a time up to the deadline is one up to the longest response
  up : {t : ℕ} → Covers d ts xs i t → Covers max_response ts xs i t
  up c = record { some = c.some; early = omega (arith, c.early, v.cap_most); covers = c.covers }

  -- the deadline is met exactly where a time up to it covers
  covers-slack : {t : ℕ} → Covers d ts xs i t → pos 0 ≤ℤ s
  covers-slack {t} c = let l = any.least t (up c) in omega (arith, ints, slack-some l.0, l.1, c.early)

  slack-covers : pos 0 ≤ℤ s → Covers d ts xs i r
  slack-covers p = elim (le-or-lt 1 r) [
    | inl h ↦ record { some = h; early = omega (arith, ints, slack-some h); covers = (any.covers h).covers }
    | inr h ↦ let z : ⊥ = omega (arith, ints, unanswered h) in absurd z
  ]

  -- the climb may be left past the deadline
  pub meets-in-time : meets ts xs i ≡ leb 1 (busy_in_time ts xs i)
  meets-in-time =
      let x = busy-exact d ts xs i (omega (arith, v.wcet_some)) in
      elim (le-or-lt 1 (busy_in_time ts xs i)) [
        | inl h ↦ rw (le-leb 1 (busy_in_time ts xs i) h) (let p = covers-slack (x.covers h) in grind (arith, ints))
        | inr h ↦ rw (lt-leb 1 (busy_in_time ts xs i) h)
            (not-false (λ e. let p : pos 0 ≤ℤ s = grind (arith, ints) in omega (arith, (x.least r (slack-covers p)).0)))
      ]

  pub meets-responds : 1 ≤ busy_in_time ts xs i → meets ts xs i ≡ true
  meets-responds h = meets-in-time ∙ le-leb 1 (busy_in_time ts xs i) h

  pub misses-none : busy_in_time ts xs i ≡ 0 → meets ts xs i ≡ false
  misses-none e = meets-in-time ∙ lt-leb 1 (busy_in_time ts xs i) (omega arith)

  pub slack-exact : 1 ≤ get_or xs i 0 → IsSlack ts xs i s
  slack-exact p = elim (le-or-lt 1 r) [
    | inl h ↦
        let e = slack-some h in
        let c = any.covers h in
        let d-some : 1 ≤ d = omega (arith, v.cap_some) in
        record {
          met = λ q. record { busy = r; covers = slack-covers q; least = λ t k. (any.least t (up k)).1; is = e };
          on_time = λ t. covers-slack;
          late = λ q z. (
            record { busy = r; covers = c; least = λ t k. (any.least t k).1; is = e },
            λ t k. let w = covers-slack k in omega (arith, ints),
          );
          none = λ z. let w : ⊥ = omega (arith, ints, e, c.early) in absurd w;
          is_none = λ n. absurd (n r c);
          least = omega (arith, ints, e, c.early);
        }
    | inr h ↦
        let e = unanswered h in
        record {
          met = λ q. let z : ⊥ = omega (arith, ints, e) in absurd z;
          on_time = λ t. covers-slack;
          late = λ q z. let w : ⊥ = omega (arith, ints, e) in absurd w;
          none = λ z t k. omega (arith, (any.least t k).0);
          is_none = λ n. e;
          least = omega (arith, ints, e);
        }
  ]
