use Rattle.std.proofs.Common.{◌<◌, ◌≤◌, ◌+◌, ◌*◌, length, arith, sym, ap, ◌∙◌, mul-le-mul_left}
use Rattle.plan.specs.Tasks.{task_at}
use Rattle.plan.specs.Layout.{row_size}
use Rattle.plan.specs.Canonical.{row_bytes}
use Rattle.plan.proofs.Joined.{part_end, stored_more, stored-all}
use Rattle.plan.proofs.Canonical.{row-length, rows-length, rows-from}
use Rattle.plan.proofs.writer.put_rows.Goals as goal

pub loop-i-preserved : goal.loop-i-preserved
loop-i-preserved c =
    let l = c.loop-i in
    let v = c.args.version in
    let ts = c.args.tasks.now in
    let task = task_at ts l.i in
    let h : l.i < length ts = c.loop-i-test.true in
    stored_more l.invariant (row_bytes v task) _ (row_size v * (l.i + 1)) (rows-from v ts l.i h)
    (part_end (row_size v) l.i ∙ ap (λ n. row_size v * l.i + n) (sym (row-length v task)))
    (c.put_words.ensures ∙ rw (c.row_size-width.ensures.0, c.row_numbers-numbers.ensures.0, c.row.ensures))

pub returns : goal.returns
returns c =
    let v = c.args.version in
    let ts = c.args.tasks.now in
    let all : length ts ≤ c.loop-i.i = omega arith in
    stored-all c.loop-i.invariant (omega (arith, rows-length v ts, mul-le-mul_left (row_size v) all))
