-- WRITE: how long a form is, what a loaded plan says of it, and the call's answers.
use mathlib.Core.Path.{◌≡◌, refl, sym, ap, ◌∙◌}
use mathlib.Core.Bool.{true, false, cond}
use mathlib.Core.Logic.{inl, inr}
use mathlib.Core.List.{List, [], ◌∷◌}
use Prim.Native.Nat.{ℕ, ◌+◌, ◌*◌, ◌≤◌}
use native.Mathlib.Omega.{arith}
use native.Mathlib.Nat.{mul-le-mul_left}
use lib.Dec.{eqb}
use lib.ListN.{length}
use lib.Seq.{sets, length-sets}
use borrow.Author.Tests.{eq-eqb, ne_eqb}
use Rattle.plan.specs.declared.tasks.Task.{Task}
use Rattle.plan.specs.Faults.{none, passed}
use Rattle.std.specs.Prelude.{Ok, Err}
use Rattle.plan.specs.declared.errors.ReadError.{ReadError}
use Rattle.plan.specs.declared.errors.WriteError.TheVariants.{Read as Unread, SpaceLength}
use Rattle.plan.specs.Errors.{read_error_fault}
use Rattle.plan.specs.Layout.{header_width, row_size, name_width, task_count}
use Rattle.plan.specs.Files.{file_fault}
use Rattle.plan.specs.Files.{accepted, tasks_of, names_of}
use Rattle.plan.specs.Canonical.{version_for, header_bytes, rows_bytes, names_bytes, rows_to, names_to, canonical, canonical_of}
use Rattle.plan.specs.Promises.{max_form, Written, written_of, write_answer, Writes}
use Rattle.plan.proofs.Tests.{bool}
use Rattle.plan.proofs.Versions.{row-range}
use Rattle.plan.proofs.Accepted.{accepted-none, accepted-areas, tasks-length}
use Rattle.plan.proofs.Canonical.{Formable, rows-length, names-length, form-stored}
use Rattle.plan.proofs.Loading.{unaccepted}
use Rattle.plan.proofs.OneForm.{formable, form_of, form-size, one_form}

empty : (l : List ℕ) → length l ≡ 0 → l ≡ []
empty [] e = refl
empty (x ∷ l) e = let z : ⊥ = omega arith in absurd z

-- how long a form is
no-form : (s : List ℕ) → accepted s ≡ false → canonical_of s ≡ []
unfolding canonical_of
no-form s e = rw e

form-most : (s : List ℕ) → length (canonical_of s) ≤ max_form
form-most s = elim (bool (accepted s)) [
  | inl e ↦ let few = (accepted-areas s e).few in
      let width = row_size (version_for (tasks_of s)) in
      omega (arith, form-size s e, few, mul-le-mul_left width few, row-range (version_for (tasks_of s)))
  | inr e ↦ omega (arith, ap length (no-form s e))
]

-- WRITE's answers
writes : (s o : List ℕ) {o' : List ℕ} {r : Written} → r ≡ written_of s (length o) → o' ≡ cond (passed r.fault) (canonical_of s) o
    → Writes s o o' r
writes s o a b = record { answer = a; space = b; most = rw a (form-most s); form = one_form s }

-- where the file's own rules refuse it
pub write_refused : (s o : List ℕ) (e : ReadError) → read_error_fault e ≡ file_fault s
    → Writes s o o (write_answer (Err (Unread e)))
write_refused s o e h =
    let a = unaccepted s e h in
    writes s o (rw (a, no-form s a, h)) (rw (h, a))

-- what an accepted file's tasks say of its form: the version that they need, how many they are, and how many bytes their rows have
module _ (s : List ℕ) (accepts : accepted s ≡ true) {ts : List Task} (tasks : ts ≡ tasks_of s)
    {v n rows : ℕ} (vs : v ≡ version_for ts) (count : n ≡ length ts) (size_of : rows ≡ row_size v * n) where
  counted : n ≡ task_count s
  counted = count ∙ ap length tasks ∙ tasks-length s accepts

  abbrev form_names_at : ℕ
  form_names_at = header_width + rows

  abbrev size : ℕ
  size = form_names_at + name_width * n

  size_is : size ≡ length (canonical_of s)
  size_is = rw (form-size s accepts, ← tasks, ← vs, ← counted, size_of)

  -- WRITE's answers where the space has the wrong length, and where the form is written
  module _ (o : List ℕ) where
    pub writes_nothing : (length o ≡ size → ⊥) → Writes s o o (write_answer (Err (SpaceLength size)))
    writes_nothing h = writes s o (rw (accepts, ← size_is, ne_eqb (length o) size h)) refl

    module _ {headed rowed : List ℕ} (h : length o ≡ size)
        (first : headed ≡ sets o 0 (header_bytes v n form_names_at size))
        (second : rowed ≡ sets headed header_width (rows_bytes v ts)) where
      pub names-fit : form_names_at + name_width * n ≤ length rowed
      names-fit =
          let e = ap length second ∙ length-sets headed header_width (rows_bytes v ts) in
          let f = ap length first ∙ length-sets o 0 (header_bytes v n form_names_at size) in
          omega arith

      form-written : sets rowed form_names_at (names_bytes (names_of s)) ≡ canonical_of s
      form-written =
          let ns = names_of s in
          let w : Formable ts ns = rw tasks (formable s accepts) in
          let m : form_names_at ≡ rows_to ts =
          rw (size_of, vs, count) (sym (ap (λ k. header_width + k) (rows-length (version_for ts) ts))) in
          let k : size ≡ names_to ts ns = omega (arith, m, names-length ns w.names, w.count) in
          rw (second, first, k, m, count, vs)
          (form-stored ts ns w o (h ∙ k) ∙ sym (form_of s accepts ∙ ap (λ ts. canonical ts ns) (sym tasks)))

      pub writes-form : {o' : List ℕ} → o' ≡ sets rowed form_names_at (names_bytes (names_of s))
          → Writes s o o' (write_answer (Ok size))
      writes-form third = writes s o (rw (accepts, ← size_is, eq-eqb (length o) size h)) (third ∙ form-written)

-- a space of the form's length: the refusal is the file's own, and the space holds the form
pub exact-space : {s o o' : List ℕ} {r : Written} → Writes s o o' r → length o ≡ length (canonical_of s)
    → (r.fault ≡ file_fault s) × (o' ≡ canonical_of s)
exact-space {s} {o} {o'} {r} w l =
    let same : eqb (length o) (length (canonical_of s)) ≡ true = eq-eqb (length o) (length (canonical_of s)) l in
    elim (bool (accepted s)) [
      | inl e ↦ let f : r.fault ≡ none = ap (λ x. x.fault) w.answer ∙ rw (e, same) in
          (f ∙ sym (accepted-none s e), w.space ∙ rw f)
      | inr e ↦ let f : r.fault ≡ file_fault s = ap (λ x. x.fault) w.answer ∙ rw e in
          let none : canonical_of s ≡ [] = no-form s e in
          (f, w.space ∙ rw (f, e, none) (empty o (rw none at l)))
    ]
