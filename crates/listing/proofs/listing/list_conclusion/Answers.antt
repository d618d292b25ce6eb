use Rattle.std.proofs.Common.{rules, Ok, ap, ◌∙◌}
use Rattle.std.proofs.lemmas.Result.{err_from_is_err_and}
use Rattle.optimizer.specs.Answers.{answer_of}
use Rattle.listing.proofs.Conclusions.{unread-listed, unread-work, work-left, refusal-listed, stop-listed}
use Rattle.listing.proofs.Conclusions.{answer-limits, answer-listed}
use Rattle.listing.proofs.listing.list_conclusion.Goals as goal

pub returns-in_err-loaded-clause-prints : goal.returns-in_err-loaded-clause-prints
returns-in_err-loaded-clause-prints c = search (rules, unread-listed)

pub returns-in_err-loaded-clause-work : goal.returns-in_err-loaded-clause-work
returns-in_err-loaded-clause-work c = unread-work _ _ c.in_err-loaded.ensures.refuses c.args.budget c.args.work.now

pub returns-in_err-cost-clause-prints : goal.returns-in_err-cost-clause-prints
returns-in_err-cost-clause-prints c =
    let e = err_from_is_err_and c.from_residual-in_err-cost.result c.from_residual-in_err-cost.ensures.1 in
    let v = c.as_mut_slice-periods.ensures.value in
    let is = ap answer_of c.in_err-cost.was in
    rw (e.1, e.2)
    (refusal-listed c.in_ok-loaded.ensures.loads _ c.column-space.ensures v c.cheapest_of.ensures _ is)

pub returns-in_err-cost-clause-work : goal.returns-in_err-cost-clause-work
returns-in_err-cost-clause-work c =
    let v = c.as_mut_slice-periods.ensures.value in
    work-left c.in_ok-loaded.ensures.loads _ c.column-space.ensures v c.cheapest_of.ensures

pub list_answer-requires : goal.list_answer-requires
list_answer-requires c =
    let v = c.as_mut_slice-periods.ensures.value in
    let is = ap answer_of (c.in_ok-cost.was ∙ ap Ok c.in-Answered.is) in
    answer-limits c.in_ok-loaded.ensures.loads _ c.column-space.ensures v c.cheapest_of.ensures _ _ is

pub returns-in-Answered-clause-prints : goal.returns-in-Answered-clause-prints
returns-in-Answered-clause-prints c =
    let v = c.as_mut_slice-periods.ensures.value in
    let is = ap answer_of (c.in_ok-cost.was ∙ ap Ok c.in-Answered.is) in
    (rw (ap (λ f. f.now) c.in_ok-loaded.ensures.file) at c.list_answer.ensures)
    ∙ answer-listed c.in_ok-loaded.ensures.loads _ c.column-space.ensures v c.cheapest_of.ensures _ _ is

pub returns-in-Answered-clause-work : goal.returns-in-Answered-clause-work
returns-in-Answered-clause-work c =
    let v = c.as_mut_slice-periods.ensures.value in
    work-left c.in_ok-loaded.ensures.loads _ c.column-space.ensures v c.cheapest_of.ensures

pub returns-in-Stopped-clause-prints : goal.returns-in-Stopped-clause-prints
returns-in-Stopped-clause-prints c =
    let v = c.as_mut_slice-periods.ensures.value in
    let is = ap answer_of (c.in_ok-cost.was ∙ ap Ok c.in-Stopped.is) in
    let at = stop-listed c.in_ok-loaded.ensures.loads _ c.column-space.ensures v c.cheapest_of.ensures in
    c.list_stop.ensures ∙ at _ _ _ _ is

pub returns-in-Stopped-clause-work : goal.returns-in-Stopped-clause-work
returns-in-Stopped-clause-work c =
    let v = c.as_mut_slice-periods.ensures.value in
    work-left c.in_ok-loaded.ensures.loads _ c.column-space.ensures v c.cheapest_of.ensures
