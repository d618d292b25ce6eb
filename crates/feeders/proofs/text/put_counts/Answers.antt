use Rattle.std.proofs.Common.{arith, append_assoc, ◌∙◌}
use Rattle.listing.proofs.TaskLines.{name-le}
use Rattle.feeders.proofs.Lines.{count-more}
use Rattle.feeders.proofs.text.put_counts.Goals as goal

pub put_labelled-requires : goal.put_labelled-requires
put_labelled-requires c =
    let few = c.args.file.now.plan.few in
    omega (arith, name-le c.name.ensures, c.requires.room, c.requires.sized, few)

pub loop-i-preserved : goal.loop-i-preserved
loop-i-preserved c =
    let s = c.args.file.now.located.file.now in
    let more = count-more s c.args.counts.now c.loop-i.i c.name.ensures.bytes c.from.ensures in
    record {
      puts = c.put_labelled.ensures.puts ∙ rw (c.loop-i.invariant.puts, ← more, append_assoc);
      few = omega (arith, name-le c.name.ensures);
    }

pub returns-clause-few : goal.returns-clause-few
returns-clause-few c = omega (arith, c.requires.sized, c.args.file.now.plan.few)
