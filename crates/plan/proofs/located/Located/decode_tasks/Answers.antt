use Rattle.std.proofs.Common.{arith, sym}
use Rattle.plan.proofs.Decoding.{decoded-count, all-passed, row-broken, name-broken, decoding-next}
use Rattle.plan.proofs.located.Located.decode_tasks.Goals as goal

pub returns-in_default-clause-refuses : goal.returns-in_default-clause-refuses
returns-in_default-clause-refuses c =
    let l = c.loop-i in
    let count = c.args.self.now.placed.tasks in
    row-broken l.invariant (omega (arith, count)) c.unwrap_err.result
    (rw c.unwrap_err.ensures at c.row-row.ensures.refuses)

pub returns-then-not-name_ok-clause-refuses : goal.returns-then-not-name_ok-clause-refuses
returns-then-not-name_ok-clause-refuses c =
    let name = rw c.name_field.ensures.bytes at c.if-not-name_ok.ensures in
    let count = c.args.self.now.placed.tasks in
    name-broken c.loop-i.invariant (omega (arith, count)) c.in-Ok.ensures.refuses (sym name)

pub push-requires : goal.push-requires
push-requires c =
    let w = c.args.self.now.placed in
    omega (arith, decoded-count c.loop-i.invariant, w.few, w.tasks)

pub loop-i-preserved : goal.loop-i-preserved
loop-i-preserved c =
    let name = rw c.name_field.ensures.bytes at c.if-not-name_ok.ensures in
    let count = c.args.self.now.placed.tasks in
    rw (c.push.ensures.items, c.in-Ok.ensures.decodes)
    (decoding-next c.loop-i.invariant (omega (arith, count)) c.in-Ok.ensures.refuses (sym name))

pub returns-clause-refuses : goal.returns-clause-refuses
returns-clause-refuses c = all-passed c.loop-i.invariant (omega (arith, c.args.self.now.placed.tasks))
