use Rattle.std.proofs.Common.{rules, ap}
use Rattle.std.proofs.lemmas.Result.{err_from_is_err_and}
use Rattle.feeders.proofs.Listed.{unread, refused, listed}
use Rattle.feeders.proofs.text.list_counts.Goals as goal

pub returns-in_err-loaded : goal.returns-in_err-loaded
returns-in_err-loaded c = search (rules, unread)

pub returns-in_err-pair : goal.returns-in_err-pair
returns-in_err-pair c =
    let e = err_from_is_err_and c.from_residual-in_err-pair.result c.from_residual-in_err-pair.ensures.1 in
    let r = c.predecessors_of in
    rw (e.1, e.2)
    (refused c.in_ok-loaded.ensures.loads c.len.ensures.value r.result r.ensures.precedes _ c.in_err-pair.was)

pub returns : goal.returns
returns c =
    let r = c.predecessors_of in
    let same = ap (λ f. f.now) c.in_ok-loaded.ensures.file in
    let tasks = rw (same, c.new-text.ensures) at c.put_counts.ensures.puts in
    listed c.in_ok-loaded.ensures.loads c.len.ensures.value r.result r.ensures.precedes c.in_ok-pair.pair
    c.in_ok-pair.was
    (rw (tasks, c.from.ensures, c.unwrap_or.ensures) at c.put_labelled.ensures.puts)
