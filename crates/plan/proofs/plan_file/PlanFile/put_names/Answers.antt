use Rattle.std.proofs.Common.{◌<◌, ◌+◌, ◌*◌, arith}
use Rattle.plan.specs.Layout.{name_width, task_count}
use Rattle.plan.specs.Canonical.{name_bytes}
use Rattle.plan.proofs.Joined.{stored_more, stored-all}
use Rattle.plan.proofs.Canonical.{name-long}
use Rattle.plan.proofs.Loading.{loaded-count}
use Rattle.plan.proofs.OneForm.{all-names, name-fits, names-next}
use Rattle.plan.proofs.plan_file.PlanFile.put_names.Goals as goal

pub put_name-requires : goal.put_name-requires
put_name-requires c =
    let file = c.args.self.now in
    let s = file.located.file.now in
    let h : c.loop-i.i < task_count s = omega (arith, loaded-count file.loads) in
    (omega (arith, c.requires), name-fits s file.loads.accepts c.loop-i.i h c.name.ensures.bytes)

pub loop-i-preserved : goal.loop-i-preserved
loop-i-preserved c =
    let l = c.loop-i in
    let file = c.args.self.now in
    let s = file.located.file.now in
    let e = file.loads.accepts in
    let h : l.i < task_count s = omega (arith, loaded-count file.loads) in
    let name = c.name.result.now in
    let is = c.name.ensures.bytes in
    stored_more l.invariant (name_bytes name) _ (name_width * (l.i + 1)) (names-next s e l.i h is)
    (omega (arith, name-long name (name-fits s e l.i h is))) c.put_name.ensures

pub returns : goal.returns
returns c =
    let file = c.args.self.now in
    stored-all c.loop-i.invariant
    (omega (arith, all-names file.located.file.now file.loads.accepts, loaded-count file.loads))
