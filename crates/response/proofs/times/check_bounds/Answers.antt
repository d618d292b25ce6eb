use Rattle.std.proofs.Common.{rules, tests, ◌≡◌, ◌≤◌, ◌<◌, ℕ, List, true, false, length, get_or, Bor, sym, ap, ◌∙◌}
use Rattle.std.proofs.Common.{arith}
use Rattle.std.specs.List.{zip, enumerate_from}
use Rattle.std.proofs.lemmas.List.{length_push, get_or_default}
use Rattle.std.proofs.lemmas.List.FromFn.{length-enumerate_from, get_or-enumerate_from}
use Rattle.std.proofs.lemmas.Iterator.{YieldsList-from_slice, YieldsList-from_zip}
use Rattle.std.proofs.lemmas.Iterator.Consumers.{YieldsList-from_enumerate, YieldsList-turn, YieldsList-end}
use Rattle.std.proofs.lemmas.Slice.Zip.{length-zip, get_or-zip}
use Rattle.plan.specs.declared.tasks.Task.{Task}
use Rattle.plan.specs.TaskSets.{tasks_in}
use Rattle.plan.specs.Tasks.{between, no_task, task_at}
use Rattle.plan.proofs.Rules.{run-task, run-next, run_end}
use Rattle.response.specs.Promises.{bound_fault}
use Rattle.response.proofs.times.check_bounds.Goals as goal

-- the turn of task n
record Turn (ts : List Task) (xs : List ℕ) (n i : ℕ) (task : Task) (period : ℕ) : Type 0 where
  inside : n < length ts
  index_is : i ≡ n
  task_is : task ≡ task_at ts n
  period_is : period ≡ get_or xs n 0

turn : {ts : List Task} {xs : List ℕ} {n i : ℕ} {task : Task} {period : ℕ}
    → (n < length (enumerate_from 0 (zip ts xs)))
    × ((i, (task, period)) ≡ get_or (enumerate_from 0 (zip ts xs)) n (i, (task, period)))
    → Turn ts xs n i task period
turn {ts} {xs} {n} {i} {task} {period} z =
    let l : n < length (zip ts xs) = omega (arith, length-enumerate_from 0 (zip ts xs)) in
    let t : n < length ts = omega (arith, length-zip ts xs) in
    let p : n < length xs = omega (arith, length-zip ts xs) in
    let e = z.1 ∙ get_or-enumerate_from 0 (zip ts xs) n (i, (task, period)) l in
    let f = ap (λ (r : ℕ × (Task × ℕ)). r.1) e ∙ get_or-zip ts xs n (task, period) t p in
    record {
      inside = t;
      index_is = omega (arith, ap (λ (r : ℕ × (Task × ℕ)). r.0) e);
      task_is = ap (λ (r : Task × ℕ). r.0) f ∙ get_or_default ts n task no_task t;
      period_is = ap (λ (r : Task × ℕ). r.1) f ∙ get_or_default xs n period 0 p;
    }

pub returns-then-not-contains : goal.returns-then-not-contains
returns-then-not-contains c =
    let ts = tasks_in c.args.tasks.now in
    let xs = c.args.periods.now in
    let seen = c.loop-i.yielded in
    let task = c.in-Some.task.now in
    let outside : between task.period_min c.in-Some.period.now task.period_max ≡ false =
    search (rules, tests, c.if-not-contains.ensures.value, c.new.ensures) in
    let road = YieldsList-from_enumerate {s = c.into_iter-i-iterator.result}
    (YieldsList-from_zip (YieldsList-from_slice ts (cc)) (YieldsList-from_slice xs (cc))) (cc) in
    let item : ℕ × (Bor Task × Bor ℕ) = (c.in-Some.i, (c.in-Some.task, c.in-Some.period)) in
    let t = turn
    (YieldsList-turn road seen _ c.loop-i.yielded_by _ c.next.new.self item c.in-Some.is c.next.ensures.steps) in
    let broken = rw (t.task_is, t.period_is) at outside in
    let run = run-task (bound_fault ts xs) (length ts) (length seen) 22 t.inside (rw broken) in
    rw t.index_is (sym (c.loop-i.invariant ∙ run))

pub loop-i-preserved : goal.loop-i-preserved
loop-i-preserved c =
    let ts = tasks_in c.args.tasks.now in
    let xs = c.args.periods.now in
    let seen = c.loop-i.yielded in
    let item : ℕ × (Bor Task × Bor ℕ) = (c.in-Some.i, (c.in-Some.task, c.in-Some.period)) in
    let task = c.in-Some.task.now in
    let inside : between task.period_min c.in-Some.period.now task.period_max ≡ true =
    search (rules, tests, c.if-not-contains.ensures.value, c.new.ensures) in
    let road = YieldsList-from_enumerate {s = c.into_iter-i-iterator.result}
    (YieldsList-from_zip (YieldsList-from_slice ts (cc)) (YieldsList-from_slice xs (cc))) (cc) in
    let t = turn
    (YieldsList-turn road seen _ c.loop-i.yielded_by _ c.next.new.self item c.in-Some.is c.next.ensures.steps) in
    let passed = rw (t.task_is, t.period_is) at inside in
    let run = run-next (bound_fault ts xs) (length ts) (length seen) t.inside (rw passed) in
    rw (length_push seen item) (c.loop-i.invariant ∙ run)

pub returns : goal.returns
returns c =
    let ts = tasks_in c.args.tasks.now in
    let xs = c.args.periods.now in
    let seen = c.loop-i.yielded in
    let road = YieldsList-from_enumerate {s = c.into_iter-i-iterator.result}
    (YieldsList-from_zip (YieldsList-from_slice ts (cc)) (YieldsList-from_slice xs (cc))) (cc) in
    let t = YieldsList-end road seen _ c.loop-i.yielded_by _ c.next.new.self c.in-None.is c.next.ensures.steps in
    let all : length ts ≤ length seen = omega (arith, t.1, length-enumerate_from 0 (zip ts xs), length-zip ts xs) in
    sym (c.loop-i.invariant ∙ run_end (bound_fault ts xs) (length ts) (length seen) all)
