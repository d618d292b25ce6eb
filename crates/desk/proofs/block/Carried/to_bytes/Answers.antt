use Rattle.std.proofs.Common.{◌∙◌, arith, refl}
use Rattle.plan.proofs.Bytes.{four-bytes, eight-bytes}
use Rattle.desk.proofs.Bytes.{answer-put, block_written}
use Rattle.desk.proofs.block.Carried.to_bytes.Goals as goal

pub returns : goal.returns
returns c =
    rw (
      c.put_periods.ensures.put,
      c.put_bytes-6.ensures,
      c.to_le_bytes-6.ensures ∙ four-bytes _,
      c.put_bytes-5.ensures,
      c.to_le_bytes-5.ensures ∙ eight-bytes _,
      c.put_bytes-4.ensures,
      c.to_le_bytes-4.ensures ∙ eight-bytes _,
      c.put_bytes-3.ensures,
      c.to_le_bytes-3.ensures ∙ eight-bytes _,
      c.put_bytes-2.ensures,
      c.to_le_bytes-2.ensures ∙ four-bytes _,
      c.put_bytes.ensures,
      c.to_le_bytes.ensures ∙ four-bytes _,
      answer-put,
    )
    (block_written _ _ refl
    (record {
      number = omega arith;
      place = omega arith;
      cost = omega arith;
      rounds = omega arith;
      bound = omega arith;
      tasks = omega arith;
      periods = c.put_periods.ensures.narrow;
      sixteen = omega arith;
    }))
