use Rattle.std.proofs.Common.{◌≡◌, ◌<◌, length, take, ℕ, List, get_or, ◌∙◌, add-one, arith}
use Rattle.std.proofs.lemmas.List.{get_or-take, length-take, length_push}
use Rattle.std.proofs.lemmas.Slice.Zip.{zip_turn, zip_end}
use Rattle.plan.specs.declared.tasks.Task.{Task}
use Rattle.plan.specs.Tasks.{no_task, task_at}
use Rattle.response.specs.Analysis.{demand}
use Rattle.response.proofs.assignment.Assignment.demand.Goals as goal

-- the turn of task n among those above i
record Turn (ts : List Task) (xs : List ℕ) (i n : ℕ) (task : Task) (period : ℕ) : Type 0 where
  inside : n < i
  task_is : task ≡ task_at ts n
  period_is : period ≡ get_or xs n 0

turn : (ts : List Task) (xs : List ℕ) (i n : ℕ) (task : Task) (period : ℕ)
    → (n < length (take i ts)) × (n < length (take i xs))
    × ((d : Task) → task ≡ get_or (take i ts) n d) × ((d : ℕ) → period ≡ get_or (take i xs) n d)
    → Turn ts xs i n task period
turn ts xs i n task period z =
    let l : n < i = omega (arith, length-take i xs) in
    record {
      inside = l;
      task_is = z.2 no_task ∙ get_or-take i ts n no_task l;
      period_is = z.3 0 ∙ get_or-take i xs n 0 l;
    }

pub interference-sum-requires : goal.interference-sum-requires
interference-sum-requires c =
    let ts = c.args.self.now.tasks.now in
    let xs = c.args.self.now.periods.now in
    let i = c.args.i in
    let seen = c.loop-task.yielded in
    let l = c.args.self.now.limits in
    let z = turn ts xs i (length seen) c.in-Some.task.now c.in-Some.field-0-1.now
    (zip_turn (take i ts) (take i xs) seen c.into_iter-task-iterator.result _ c.next.new.self _ (cc) (cc)
    c.loop-task.yielded_by _ c.in-Some.is c.next.ensures.steps) in
    record {
      valid = rw z.task_is (l.valid _ (omega (arith, l.sized)));
      some = rw z.period_is (l.some _ (omega arith));
      most = rw z.period_is (l.most _);
      by = omega arith;
    }

pub loop-task-preserved : goal.loop-task-preserved
loop-task-preserved c =
    let ts = c.args.self.now.tasks.now in
    let xs = c.args.self.now.periods.now in
    let i = c.args.i in
    let seen = c.loop-task.yielded in
    let z = turn ts xs i (length seen) c.in-Some.task.now c.in-Some.field-0-1.now
    (zip_turn (take i ts) (take i xs) seen c.into_iter-task-iterator.result _ c.next.new.self _ (cc) (cc)
    c.loop-task.yielded_by _ c.in-Some.is c.next.ensures.steps) in
    let p = length_push seen (c.in-Some.task, c.in-Some.field-0-1) in
    let e = rw (z.task_is, z.period_is) at c.interference-sum.ensures.is in
    record { is = rw (p, add-one) (omega arith); few = rw p (omega arith) }

pub returns : goal.returns
unfolding demand
returns c =
    let ts = c.args.self.now.tasks.now in
    let xs = c.args.self.now.periods.now in
    let i = c.args.i in
    let seen = c.loop-task.yielded in
    let z = zip_end (take i ts) (take i xs) seen c.into_iter-task-iterator.result _ c.next.new.self _ (cc) (cc)
    c.loop-task.yielded_by c.in-None.is c.next.ensures.steps in
    let sized = c.args.self.now.limits.sized in
    let e : length seen ≡ i = omega (arith, length-take i ts, length-take i xs) in
    rw e at c.loop-task.invariant.is
