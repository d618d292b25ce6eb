-- An accepted file and its canonical form: the same tasks and names, accepted again, and the same form exactly for the
-- same plan.
use mathlib.Core.Path.{◌≡◌, sym, ap, ◌∙◌}
use mathlib.Core.Bool.{true, not}
use mathlib.Core.List.{List, [], ◌++◌}
use Prim.Native.Nat.{ℕ, suc, ◌+◌, ◌-◌, ◌*◌, ◌≤◌, ◌<◌}
use native.Mathlib.Omega.{arith}
use native.Mathlib.Numerals.{add-one}
use lib.ListN.{length, get_or, drop, length-append}
use Rattle.plan.specs.declared.faults.Fault.{Fault}
use Rattle.plan.specs.declared.tasks.Task.{Task}
use Rattle.plan.specs.Lists.{tabulate}
use Rattle.plan.specs.Faults.{none, fault_if, or_else}
use Rattle.plan.specs.Tasks.{Valid, no_task, task_at}
use Rattle.plan.specs.Layout.{header_width, row_size, name_width, task_count}
use Rattle.plan.specs.Names.{name_field, name_ok, without_zeros}
use Rattle.plan.specs.Files.{task_of, row_fault, task_fault, tasks_fault, repeat_fault, same_name_fault}
use Rattle.plan.specs.Files.{accepted, tasks_of, names_of, name_of}
use Rattle.plan.specs.Canonical.{version_for, name_bytes, names_bytes, canonical, canonical_of}
use Rattle.plan.specs.Promises.{IsCanonical}
use Rattle.plan.proofs.Tests.{le-between}
use Rattle.plan.proofs.Lists.{tabulate-length, tabulate-at, tabulate-same}
use Rattle.plan.proofs.Rules.{run-all}
use Rattle.plan.proofs.Fields.{field-length, name-padded, earlier-same}
use Rattle.plan.proofs.Accepted.{all_pass, accepted-areas, accepted-task, accepted-name, accepted-tasks, tasks-length, task-passes, name-passes}
use Rattle.plan.proofs.Canonical.{Narrow, Formable, form-length, form-version, form-count, form-rows, form-names, form-task, form-name}
use Rattle.plan.proofs.Canonical.{names-length, names-from, form-laid_out, form-no_gap}

-- valid fields fit their width
narrow : (t : Task) → Valid t → Narrow t
narrow t v = record {
  wcet = omega (arith, v.wcet_most);
  period_min = omega (arith, v.ordered, v.max_most);
  period_max = omega (arith, v.max_most);
  deadline_cap = omega (arith, v.cap_most);
  weight = omega (arith, v.weight_most);
  blocking = omega (arith, v.blocking_most);
  jitter = omega (arith, v.jitter_most);
}

-- the tasks and names of an accepted file, one by one
module _ (s : List ℕ) (e : accepted s ≡ true) where
  names-count : length (names_of s) ≡ task_count s
  unfolding names_of
  names-count = tabulate-length (λ i. name_of s (suc i)) (length (tasks_of s)) 0 ∙ tasks-length s e

  module _ (i : ℕ) (h : i < task_count s) where
    task-is : task_at (tasks_of s) i ≡ task_of s i
    task-is =
        let z : 0 + i ≡ i = omega arith in
        rw (accepted-tasks s e) (tabulate-at (task_of s) (task_count s) 0 i no_task h ∙ ap (task_of s) z)

    name_of_lem : name_of s (suc i) ≡ without_zeros (name_field s i)
    name_of_lem =
        let j : suc i - 1 ≡ i = omega arith in
        rw (e, le-between 1 (suc i) (task_count s) (omega arith) (omega arith), j)

    name_at_lem : get_or (names_of s) i [] ≡ name_of s (suc i)
    unfolding names_of
    name_at_lem =
        let z : 0 + i ≡ i = omega arith in
        tabulate-at (λ k. name_of s (suc k)) (length (tasks_of s)) 0 i [] (omega (arith, tasks-length s e)) ∙ ap (λ k. name_of s (suc k)) z

    long : length (name_field s i) ≡ name_width
    long = field-length s (accepted-areas s e).names_to i h

    name-most : length (name_of s (suc i)) ≤ name_width
    name-most =
        let f : List ℕ = name_field s i in
        let whole = simp length-append at (ap length (name-padded f (accepted-name s e i h))) in
        rw name_of_lem (omega (arith, long, whole))

    name-written : name_bytes (get_or (names_of s) i []) ≡ name_field s i
    name-written =
        let f : List ℕ = name_field s i in
        rw (name_at_lem, name_of_lem) (rw long at (name-padded f (accepted-name s e i h)))

  pub formable : Formable (tasks_of s) (names_of s)
  formable =
      let size = tasks-length s e in
      let a = accepted-areas s e in
      record {
        some = omega (arith, size, a.some);
        few = omega (arith, size, a.few);
        count = names-count ∙ sym size;
        tasks = λ i l. let h : i < task_count s = omega (arith, size) in
            rw (task-is i h) (narrow (task_of s i) (accepted-task s e i h));
        names = λ i l. let h : i < task_count s = omega (arith, names-count) in rw (name_at_lem i h) (name-most i h);
      }

  -- its names, written one by one
  pub all-names : length (names_bytes (names_of s)) ≡ name_width * task_count s
  all-names = names-length (names_of s) formable.names ∙ ap (λ n. name_width * n) names-count

  module _ (i : ℕ) (h : i < task_count s) {name : List ℕ} (is : name ≡ name_of s (i + 1)) where
    pub name-fits : length name ≤ name_width
    name-fits = rw (is, add-one i) (name-most i h)

    pub names-next : drop (name_width * i) (names_bytes (names_of s)) ≡ name_bytes name ++ drop (name_width * (i + 1)) (names_bytes (names_of s))
    names-next =
        let e : get_or (names_of s) i [] ≡ name = name_at_lem i h ∙ sym (rw (add-one i) at is) in
        rw e at (names-from (names_of s) formable.names i (omega (arith, names-count)))

  abbrev form : List ℕ
  form = canonical (tasks_of s) (names_of s)

  pub form_of : canonical_of s ≡ form
  unfolding canonical_of
  form_of = rw e

  pub form-size : length (canonical_of s) ≡ header_width + row_size (version_for (tasks_of s)) * task_count s + name_width * task_count s
  form-size = rw (form_of, ← tasks-length s e) (form-length (tasks_of s) (names_of s) formable)

  -- the form's tasks and names, one by one
  same_count : task_count form ≡ task_count s
  same_count = form-count (tasks_of s) (names_of s) formable ∙ tasks-length s e

  same-task : (i : ℕ) → i < task_count s → task_of form i ≡ task_of s i
  same-task i h = form-task (tasks_of s) (names_of s) formable i (omega (arith, tasks-length s e)) ∙ task-is i h

  same_field_lem : (i : ℕ) → i < task_count s → name_field form i ≡ name_field s i
  same_field_lem i h = form-name (tasks_of s) (names_of s) formable i (omega (arith, tasks-length s e)) ∙ name-written i h

  -- so it breaks no rule that the file does not
  same-fault : (i : ℕ) → i < task_count s → task_fault form i ≡ task_fault s i
  same-fault i h =
      let rule : Task → List ℕ → Fault = λ t name. or_else (row_fault t i) (fault_if (not (name_ok name)) 10 (suc i)) in
      ap (λ t. rule t (name_field form i)) (same-task i h) ∙ ap (rule (task_of s i)) (same_field_lem i h)

  form-tasks-pass : tasks_fault form ≡ none
  form-tasks-pass =
      run-all (task_fault form) (task_count form) 0
      (λ i p q. let h : i < task_count s = omega (arith, same_count) in ap (λ f. f.number) (same-fault i h) ∙ task-passes s e i h)

  form-names-pass : same_name_fault form ≡ none
  form-names-pass =
      run-all (repeat_fault form) (task_count form) 0
      (λ i p q. let h : i < task_count s = omega (arith, same_count) in
      rw (earlier-same form s (task_count s) same_field_lem i i h (omega arith)) (name-passes s e i h))

  form-accepted : accepted form ≡ true
  form-accepted =
      let pass = all_pass form
      (ap (λ f. f.number) (form-laid_out (tasks_of s) (names_of s) formable))
      (ap (λ f. f.number) (form-no_gap (tasks_of s) (names_of s) formable))
      (ap (λ f. f.number) form-tasks-pass)
      (ap (λ f. f.number) form-names-pass) in
      rw (← pass)

-- the same plan
module _ (s : List ℕ) (e : accepted s ≡ true) where
  form-tasks : tasks_of s ≡ tasks_of (form s e)
  form-tasks =
      let f = form s e in
      let same = tabulate-same (task_of s) (task_of f) (task_count s) 0 (λ i p q. sym (same-task s e i (omega arith))) in
      accepted-tasks s e ∙ same ∙ sym (accepted-tasks f (form-accepted s e) ∙ ap (λ n. tabulate (task_of f) n 0) (same_count s e))

  form-name_of : (i : ℕ) → i < task_count s → name_of s (suc i) ≡ name_of (form s e) (suc i)
  form-name_of i h =
      let f = form s e in
      let k : i < task_count f = rw (same_count s e) h in
      name_of_lem s e i h ∙ ap without_zeros (sym (same_field_lem s e i h)) ∙ sym (name_of_lem f (form-accepted s e) i k)

  form-names_of : names_of s ≡ names_of (form s e)
  unfolding names_of
  form-names_of =
      let f = form s e in
      let size = tasks-length s e in
      tabulate-same (λ i. name_of s (suc i)) (λ i. name_of f (suc i)) (length (tasks_of s)) 0
      (λ i p q. form-name_of i (omega (arith, size)))
      ∙ ap (λ ts. tabulate (λ i. name_of f (suc i)) (length ts) 0) form-tasks

pub one_form : (s : List ℕ) → accepted s ≡ true → IsCanonical s (canonical_of s)
one_form s e =
    let w = formable s e in
    let ts = tasks_of s in
    let ns = names_of s in
    let f = form s e in
    let size = tasks-length s e in
    let n = same_count s e in
    rw (form_of s e)
    (record {
      version = form-version ts ns w;
      rows = form-rows ts ns w;
      names = rw (form-version ts ns w, form-names ts ns w, form-rows ts ns w, n, size);
      end = rw (form-names ts ns w, n, ← size) (form-length ts ns w);
      accepts = form-accepted s e;
      plan = (form-tasks s e, form-names_of s e);
      again = rw (form_of f (form-accepted s e), ← form-tasks s e, ← form-names_of s e);
      same_form = λ s' a (t, m). rw (form_of s' a, t, m);
      same_plan = λ s' a q. let z : form s' a ≡ f = sym (form_of s' a) ∙ q in
          (form-tasks s e ∙ ap tasks_of (sym z) ∙ sym (form-tasks s' a), form-names_of s e ∙ ap names_of (sym z) ∙ sym (form-names_of s' a));
    })
