use Rattle.std.proofs.Common.{◌≡◌, rules, Err}
use Rattle.optimizer.specs.declared.errors.CallError.TheVariants.{Read}
use Rattle.optimizer.proofs.Promised.{plans-unread}
use Rattle.optimizer.proofs.cheapest.cheapest_periods.Goals as goal

pub returns-in_err-loaded : goal.returns-in_err-loaded
returns-in_err-loaded c =
    let e : c.from_residual.result ≡ Err (Read c.in_err-loaded.field-0.0) = search rules in
    rw e (plans-unread (Read c.in_err-loaded.field-0.0) _ _ _ _ _ c.in_err-loaded.ensures.refuses)
