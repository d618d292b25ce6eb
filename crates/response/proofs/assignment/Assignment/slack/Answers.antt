use Rattle.std.proofs.Common.{arith, ◌≡◌, ◌≤◌, ◌<◌, ℕ, List, length, Option, Some, sym, ◌∙◌}
use Rattle.std.proofs.lemmas.Int.{ints}
use Rattle.plan.specs.declared.tasks.Task.{Task}
use Rattle.response.specs.Analysis.{deadline_at, max_response, response_time}
use Rattle.response.specs.Inner.{Limits, some_time}
use Rattle.response.proofs.Found.{found-some}
use Rattle.response.proofs.Slack.{slack-is, response-early}
use Rattle.response.proofs.Idle.{utilization-begins}
use Rattle.response.proofs.assignment.Assignment.slack.Goals as goal

-- the response time that was found
record Time (r t : ℕ) : Type 0 where
  is : t ≡ r
  some : 1 ≤ t
  most : t ≤ max_response

time : {ts : List Task} {xs : List ℕ} {i : ℕ} → Limits ts xs → i < length xs → {o : Option ℕ} {t : ℕ}
    → o ≡ some_time (response_time ts xs i) → o ≡ Some t → Time (response_time ts xs i) t
time {ts} {xs} {i} l h e f =
    let d = found-some (response_time ts xs i) (sym e ∙ f) in
    record { is = d.0; some = d.1; most = omega (arith, d.0, response-early ts xs i (l.valid i (omega (arith, l.sized)))) }

pub response_from-requires : goal.response_from-requires
response_from-requires c =
    let l = c.args.self.now.limits in
    (c.requires.0, utilization-begins l c.requires.0 c.own_demand.ensures c.requires.1 c.begin_by_utilization-start.ensures)

pub overflow_cast-result-in-Some : goal.overflow_cast-result-in-Some
overflow_cast-result-in-Some c =
    let t = time c.args.self.now.limits c.requires.0 c.response_from.ensures c.in-Some.is in
    omega (arith, ints, t.most)

pub overflow_sub-result : goal.overflow_sub-result
overflow_sub-result c =
    let t = time c.args.self.now.limits c.requires.0 c.response_from.ensures c.in-Some.is in
    let d = c.args.self.now.limits.most c.args.i in
    omega (arith, ints, c.deadline.ensures, t.most)

pub returns-in-Some : goal.returns-in-Some
returns-in-Some c =
    let t = time c.args.self.now.limits c.requires.0 c.response_from.ensures c.in-Some.is in
    let d = c.args.self.now.limits.most c.args.i in
    let ts = c.args.self.now.tasks.now in
    let xs = c.args.self.now.periods.now in
    let e = slack-is (deadline_at ts xs c.args.i) (response_time ts xs c.args.i) (omega (arith, t.is, t.some)) in
    omega (arith, ints, c.deadline.ensures, e, t.is, t.most)
