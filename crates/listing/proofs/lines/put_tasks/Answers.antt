use Rattle.std.proofs.Common.{arith, append_assoc, ◌∙◌}
use Rattle.listing.proofs.TaskLines.{name-le, line-more}
use Rattle.listing.proofs.lines.put_tasks.Goals as goal

pub put_task-requires : goal.put_task-requires
put_task-requires c = omega (arith, name-le c.name.ensures, c.requires.limits.few)

pub loop-i-preserved : goal.loop-i-preserved
loop-i-preserved c =
    let time = rw (c.response_time.ensures, c.deref.ensures.0) at c.unwrap_or-time.ensures in
    let more = line-more c.args.file.now.loads c.args.periods.now c.loop-i.i c.name.ensures.bytes time in
    record {
      puts = c.put_task.ensures.puts ∙ rw (c.loop-i.invariant.puts, ← more, append_assoc);
      few = omega (arith, name-le c.name.ensures);
    }
