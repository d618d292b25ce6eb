-- The published examples of TIMES, computed from the bytes of their files.
use mathlib.Core.Path.{◌≡◌, refl}
use mathlib.Core.List.{List, [], ◌∷◌}
use Prim.Native.Nat.{ℕ, ◌≤◌, ◌<◌}
use native.Mathlib.Omega.{arith}
use lib.ListN.{length, get_or}
use Rattle.std.specs.Prelude.{ℤ, pos, negsuc}
use Rattle.plan.specs.declared.tasks.Task.{Task}
use Rattle.plan.specs.Words.{value_of, bytes_of, words_of}
use Rattle.plan.specs.Tasks.{task_at}
use Rattle.plan.specs.Canonical.{header_bytes, canonical}
use Rattle.plan.specs.Faults.{first_from}
use Rattle.plan.specs.Files.{file_fault, tasks_of}
use Rattle.plan.proofs.Accepted.{accepted-valid}
use Rattle.plan.proofs.Samples.{plan_p, plan_s}
use Rattle.response.specs.Analysis.{own_demand, demand, climb_from, busy_period, no_slack, slack, slack_list}
use Rattle.response.specs.Inner.{whole, utilization_above}
use Rattle.response.proofs.Slack.{slack-exact}
use Rattle.response.proofs.Idle.{full-covers}

abbrev slacks_of : List ℕ → List ℕ → List ℤ
slacks_of s xs = slack_list (tasks_of s) xs

pub record Published : Type 0 where
  pub p24 : slacks_of plan_p (2 ∷ 4 ∷ []) ≡ pos 1 ∷ pos 0 ∷ []
  pub p23 : slacks_of plan_p (2 ∷ 3 ∷ []) ≡ pos 1 ∷ negsuc 0 ∷ []
  pub p33 : slacks_of plan_p (3 ∷ 3 ∷ []) ≡ pos 2 ∷ pos 0 ∷ []
  pub p18 : slacks_of plan_p (1 ∷ 8 ∷ []) ≡ pos 0 ∷ no_slack ∷ []
  pub s839 : slacks_of plan_s (105 ∷ 140 ∷ 210 ∷ 280 ∷ 420 ∷ 839 ∷ [])
      ≡ pos 85 ∷ pos 90 ∷ pos 120 ∷ pos 90 ∷ pos 10 ∷ negsuc 0 ∷ []
  pub s840 : slacks_of plan_s (105 ∷ 140 ∷ 210 ∷ 280 ∷ 420 ∷ 840 ∷ [])
      ≡ pos 85 ∷ pos 90 ∷ pos 120 ∷ pos 90 ∷ pos 10 ∷ pos 0 ∷ []

-- P at (1,8): gauge takes the whole processor, and no time up to 2,000,000 is tried for radio
abbrev p : List Task
p = tasks_of plan_p

abbrev full : List ℕ
full = 1 ∷ 8 ∷ []

record Full : Type 0 where
  two : length p ≡ 2
  own : own_demand (task_at p 1) ≡ 2
  above : utilization_above p full 1 ≡ whole
  gauge : slack p full 0 ≡ pos 0

computed : Full
unfolding value_of bytes_of words_of header_bytes canonical first_from file_fault tasks_of busy_period climb_from demand
computed = record { two = refl; own = refl; above = refl; gauge = refl }

radio : slack p full 1 ≡ no_slack
radio =
    let v = accepted-valid plan_p 1 (omega (arith, computed.two)) in
    let some : (k : ℕ) → k < 1 → 1 ≤ get_or full k 0 = λ k l. let e : k ≡ 0 = omega arith in rw e (omega arith) in
    (slack-exact p full 1 v (omega arith)).is_none
    (λ t c. full-covers p full t 1 some (omega (arith, computed.own)) (omega (arith, computed.above)) c.covers)

slacks-full : slacks_of plan_p full ≡ pos 0 ∷ no_slack ∷ []
unfolding slack_list
slacks-full = rw (computed.two, computed.gauge, radio)

pub published : Published
unfolding value_of bytes_of words_of header_bytes canonical first_from file_fault tasks_of slack_list busy_period climb_from demand
published = record { p24 = refl; p23 = refl; p33 = refl; p18 = slacks-full; s839 = refl; s840 = refl }
