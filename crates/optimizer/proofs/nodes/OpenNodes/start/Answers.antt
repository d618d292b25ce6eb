use Rattle.std.proofs.Common.{rules, ◌∷◌, [], length, ap, sym, ◌∙◌, arith}
use Rattle.std.proofs.lemmas.Slice.Zip.{AllZip-long}
use native.Mathlib.Nat.{div-mul-le_self, le-div_iff_mul-le}
use Rattle.plan.specs.Promises.{plan_tasks}
use Rattle.plan.proofs.Columns.{column-is}
use Rattle.optimizer.proofs.Columns.{weights-light}
use Rattle.optimizer.proofs.Space.{first-node}
use Rattle.optimizer.proofs.nodes.OpenNodes.start.Goals as goal

pub invariant_of-open : goal.invariant_of-open
invariant_of-open c =
    let p = c.args.plan.now in
    let ts = plan_tasks p in
    let ws = column-is (λ t. t.weight) (λ t x k. search rules) ts c.column-weights.result.items c.column-weights.ensures in
    let long = AllZip-long _ ts c.column-weights.result.items c.column-weights.ensures in
    record {
      light = rw ws (weights-light p);
      fits = rw (← c.len.ensures.value) (div-mul-le_self (length c.args.work.now) c.len.result);
      within = (le-div_iff_mul-le {k = c.len.result} (omega (arith, p.some))).1 (omega arith);
    }

pub place-requires : goal.place-requires
place-requires c =
    let p = c.args.plan.now in
    let ts = plan_tasks p in
    let long = AllZip-long _ ts c.column-weights.result.items c.column-weights.ensures in
    let long-node = AllZip-long _ ts c.column.result.items c.column.ensures in (
      (le-div_iff_mul-le {k = c.len.result} (omega (arith, p.some))).1 (omega arith),
      ap length c.deref.ensures.0 ∙ long-node ∙ sym long,
    )

pub returns-clause-starts : goal.returns-clause-starts
returns-clause-starts c =
    let ts = plan_tasks c.args.plan.now in
    let ws = column-is (λ t. t.weight) (λ t x k. search rules) ts c.column-weights.result.items c.column-weights.ensures in
    let xs = column-is (λ t. t.period_min) (λ t x k. search rules) ts c.column.result.items c.column.ensures in
    let long = AllZip-long _ ts c.column-weights.result.items c.column-weights.ensures in
    let node = c.deref.ensures.0 in
    let same = c.place.ensures.same in
    record {
      weights = rw same.weights ws;
      room = rw (same.room, c.len.ensures.value, long);
      start = rw (c.place.ensures.count, same.weights)
          (ap (λ x. x ∷ []) (first-node c.args.work.now (ap length node ∙ AllZip-long _ ts c.column.result.items c.column.ensures ∙ sym long) c.place.ensures.placed ∙ node ∙ xs));
    }
