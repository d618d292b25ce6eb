use Rattle.std.proofs.Common.{arith, ap}
use Rattle.std.proofs.lemmas.Result.{err_from_is_err_and}
use Rattle.plan.specs.TaskSets.{tasks_in}
use Rattle.plan.proofs.Numbers.{read_error_first}
use Rattle.plan.proofs.Loading.{file_rules, no-fault, some-read, valid-read, loads-plan}
use Rattle.plan.proofs.reader.load_plan.Goals as goal

pub returns-in_err-located-clause-refuses : goal.returns-in_err-located-clause-refuses
returns-in_err-located-clause-refuses c =
    let p = err_from_is_err_and c.from_residual.result c.from_residual.ensures.1 in
    let rules = file_rules c.args.file.now in
    rw (p.1, p.2) (grind (arith, rules, c.in_err-located.ensures.refuses, read_error_first))

pub returns-in_err-check_gaps-clause-refuses : goal.returns-in_err-check_gaps-clause-refuses
returns-in_err-check_gaps-clause-refuses c =
    let same = ap (λ f. f.now) c.in_ok-located.ensures.file in
    let p = err_from_is_err_and c.from_residual-in_err-check_gaps.result c.from_residual-in_err-check_gaps.ensures.1 in
    let rules = file_rules c.args.file.now in
    let e1 = c.in_ok-located.ensures.refuses in
    rw (p.1, p.2) (grind (arith, rules, same, e1, c.in_err-check_gaps.ensures, read_error_first))

pub returns-in_err-tasks-clause-refuses : goal.returns-in_err-tasks-clause-refuses
returns-in_err-tasks-clause-refuses c =
    let same = ap (λ f. f.now) c.in_ok-located.ensures.file in
    let p = err_from_is_err_and c.from_residual-in_err-tasks.result c.from_residual-in_err-tasks.ensures.1 in
    let rules = file_rules c.args.file.now in
    let e1 = c.in_ok-located.ensures.refuses in
    let e2 = c.in_ok-check_gaps.ensures in
    rw (p.1, p.2) (grind (arith, rules, same, e1, e2, c.in_err-tasks.ensures.refuses, read_error_first))

pub returns-in_err-check_same_names-clause-refuses : goal.returns-in_err-check_same_names-clause-refuses
returns-in_err-check_same_names-clause-refuses c =
    let same = ap (λ f. f.now) c.in_ok-located.ensures.file in
    let p = err_from_is_err_and c.from_residual-in_err-check_same_names.result
    c.from_residual-in_err-check_same_names.ensures.1 in
    let rules = file_rules c.args.file.now in
    let e1 = c.in_ok-located.ensures.refuses in
    let e2 = c.in_ok-check_gaps.ensures in
    let e3 = c.in_ok-tasks.ensures.refuses in
    rw (p.1, p.2) (grind (arith, rules, same, e1, e2, e3, c.in_err-check_same_names.ensures, read_error_first))

pub new-plan-requires-clause-some : goal.new-plan-requires-clause-some
new-plan-requires-clause-some c =
    let same = ap (λ f. f.now) c.in_ok-located.ensures.file in
    some-read c.args.file.now same c.in_ok-located.ensures.refuses c.in_ok-check_gaps.ensures
    c.in_ok-tasks.ensures.refuses c.in_ok-check_same_names.ensures c.in_ok-tasks.ensures.decodes

pub new-plan-requires-clause-valid : goal.new-plan-requires-clause-valid
new-plan-requires-clause-valid c =
    let same = ap (λ f. f.now) c.in_ok-located.ensures.file in
    valid-read c.args.file.now same c.in_ok-located.ensures.refuses c.in_ok-check_gaps.ensures
    c.in_ok-tasks.ensures.refuses c.in_ok-check_same_names.ensures c.in_ok-tasks.ensures.decodes

pub invariant_of-result : goal.invariant_of-result
invariant_of-result c =
    let same = ap (λ f. f.now) c.in_ok-located.ensures.file in
    rw same
    (record {
      loads = loads-plan c.args.file.now same c.in_ok-located.ensures.refuses c.in_ok-check_gaps.ensures
          c.in_ok-tasks.ensures.refuses c.in_ok-check_same_names.ensures c.in_ok-tasks.ensures.decodes c.new-plan.result
          (ap (λ v. tasks_in v) c.new-plan.ensures);
    })

pub returns-clause-refuses : goal.returns-clause-refuses
returns-clause-refuses c =
    let same = ap (λ f. f.now) c.in_ok-located.ensures.file in
    no-fault c.args.file.now same c.in_ok-located.ensures.refuses c.in_ok-check_gaps.ensures
    c.in_ok-tasks.ensures.refuses c.in_ok-check_same_names.ensures c.in_ok-tasks.ensures.decodes
