use Rattle.std.proofs.Common.{sym, ◌∙◌, arith}
use Rattle.response.proofs.Found.{found-none, found-some}
use Rattle.boundary.proofs.Raising.{raises-small, raises-seeks, raised-most, raised-last}
use Rattle.boundary.proofs.mua.raise.Goals as goal

pub returns-in_err-own-clause-is : goal.returns-in_err-own-clause-is
returns-in_err-own-clause-is c =
    raised-most c.requires (found-none _ (sym (rw c.last_end.ensures at c.busy_from.ensures) ∙ c.in_err-own.was))

pub last_miss_from-miss-requires : goal.last_miss_from-miss-requires
last_miss_from-miss-requires c =
    let found = found-some _ (sym (rw c.last_end.ensures at c.busy_from.ensures) ∙ c.in_ok-own.was) in
    raises-seeks c.requires found.0 found.1 c.lowest_start.ensures

pub returns-clause-is : goal.returns-clause-is
returns-clause-is c =
    let found = found-some _ (sym (rw c.last_end.ensures at c.busy_from.ensures) ∙ c.in_ok-own.was) in
    let e = c.last_miss_from-miss.ensures in
    (raised-last c.requires found.0 found.1 e.is e.moved).0

pub returns-clause-responds : goal.returns-clause-responds
returns-clause-responds c =
    let found = found-some _ (sym (rw c.last_end.ensures at c.busy_from.ensures) ∙ c.in_ok-own.was) in
    let e = c.last_miss_from-miss.ensures in
    c.then_some.ensures ∙ (raised-last c.requires found.0 found.1 e.is e.moved).1

pub overflow_add-own : goal.overflow_add-own
overflow_add-own c =
    let found = found-some _ (sym (rw c.last_end.ensures at c.busy_from.ensures) ∙ c.in_ok-own.was) in
    omega (arith, raises-small c.requires found.0 found.1)
