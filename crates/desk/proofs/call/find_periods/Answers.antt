use Rattle.std.proofs.Common.{ℕ}
use Rattle.std.proofs.Math.ListN.{length-replicate}
use Rattle.desk.proofs.Calling.{finds-refusal, finds-plan}
use Rattle.desk.proofs.call.find_periods.Goals as goal

pub returns-in-Ok : goal.returns-in-Ok
returns-in-Ok c =
    rw c.into.ensures
    (finds-plan
    c.in-Ok.ensures.loads
    c.len-n.ensures.value
    c.cheapest_of-ended.auto.periods
    c.cheapest_of-ended.ensures
    (length-replicate {A = ℕ} 16000 0))

pub returns-in-Err : goal.returns-in-Err
returns-in-Err c = rw (c.from.ensures, c.into-in-Err.ensures) (finds-refusal _ _ c.in-Err.ensures.refuses _)
