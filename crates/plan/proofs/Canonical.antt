-- The canonical form of tasks and names: what its header says, where its rows and names are, and that it has no fault of
-- layout.
use mathlib.Core.Path.{◌≡◌, refl, sym, ap, ◌∙◌}
use mathlib.Core.Bool.{true, false}
use mathlib.Core.Logic.{inl, inr}
use mathlib.Core.List.{List, [], ◌∷◌, ◌++◌, append_assoc}
use Prim.Native.Nat.{ℕ, ◌+◌, ◌-◌, ◌*◌, ◌^◌, ◌≤◌, ◌<◌}
use native.Mathlib.Omega.{arith}
use native.Mathlib.Nat.{mul-le-mul_left}
use lib.Dec.{eqb}
use lib.ListN.{length, get_or, take, drop, replicate, length-append, length-drop, length-replicate}
use lib.Seq.{sets, length-sets, length-take-le, drop-drop, take_at, drop-append-le, drop-append-add}
use borrow.Author.Tests.{eq-eqb, ne_eqb, eqb-true, le-ltb}
use Rattle.plan.specs.declared.tasks.Task.{Task}
use Rattle.std.specs.Int.{w16, to_le_bytes}
use Rattle.plan.specs.Faults.{none}
use Rattle.plan.specs.Words.{bytes_of, words_of}
use Rattle.plan.specs.Tasks.{min_file, max_file, max_tasks, no_task, task_at, further_field, row_at}
use Rattle.plan.specs.Tasks.{row_of}
use Rattle.plan.specs.Layout.{header_width, row_numbers, row_size, name_width, version, task_count, total_length, in_gap}
use Rattle.plan.specs.Layout.{rows_at, names_at}
use Rattle.plan.specs.Names.{name_field}
use Rattle.plan.specs.Files.{layout_fault, stray_fault, gap_fault, task_of}
use Rattle.plan.specs.Canonical.{is_plain, version_for, row_bytes, name_bytes, header_bytes, rows_bytes, names_bytes, rows_to, names_to, canonical}
use Rattle.plan.proofs.Tests.{le-or-lt, eq-or-ne, le-between, and_left, and_right, and-false}
use Rattle.plan.proofs.Lists.{sets-append, sets-whole, written-over}
use borrow.Rule.Slice.PartMut.{put_mid}
use Rattle.plan.proofs.Joined.{joined_length, joined-from}
use Rattle.plan.proofs.Bytes.{two-bytes, bytes-value, words-length, put_then}
use Rattle.plan.proofs.Rules.{run-all}
use Rattle.plan.proofs.Gaps.{area-spans}
use Rattle.plan.proofs.Versions.{row-range, row-front, version-range, all_plain}

-- each field is below its width
pub record Narrow (t : Task) : Type 0 where
  pub wcet : t.wcet < 256 ^ 4
  pub period_min : t.period_min < 256 ^ 4
  pub period_max : t.period_max < 256 ^ 4
  pub deadline_cap : t.deadline_cap < 256 ^ 4
  pub weight : t.weight < 256 ^ 4
  pub blocking : t.blocking < 256 ^ 4
  pub jitter : t.jitter < 256 ^ 4

-- a row reads back, in version 1 that of a plain task
module _ (s : List ℕ) (at : ℕ) (t : Task) (n : Narrow t) where
  -- its first five fields, with any two behind them
  abbrev first-five : ℕ → ℕ → Task
  first-five b j = record {
    wcet = t.wcet;
    period_min = t.period_min;
    period_max = t.period_max;
    deadline_cap = t.deadline_cap;
    weight = t.weight;
    blocking = b;
    jitter = j;
  }

  first_back : (rest : List ℕ) → drop at s ≡ row_bytes 1 t ++ rest → row_at s at ≡ first-five (further_field s (at + 20)) (further_field s (at + 24))
  unfolding words_of bytes_of
  first_back rest e =
      rw (
        ← drop-drop 4 at s,
        ← drop-drop 8 at s,
        ← drop-drop 12 at s,
        ← drop-drop 16 at s,
        e,
        bytes-value 4 t.wcet n.wcet,
        bytes-value 4 t.period_min n.period_min,
        bytes-value 4 t.period_max n.period_max,
        bytes-value 4 t.deadline_cap n.deadline_cap,
        bytes-value 4 t.weight n.weight,
      )

  whole_back : (rest : List ℕ) → drop at s ≡ row_bytes 1 t ++ rest
      → further_field s (at + 20) ≡ t.blocking → further_field s (at + 24) ≡ t.jitter → row_at s at ≡ t
  whole_back rest e b j =
      first_back rest e ∙ ap (λ x. first-five x (further_field s (at + 24))) b ∙ ap (first-five t.blocking) j

  wide_back : (rest : List ℕ) → (version s ≡ 1 → ⊥) → drop at s ≡ words_of (row_of t) ++ rest → row_at s at ≡ t
  unfolding words_of bytes_of
  wide_back rest h e =
      whole_back (words_of (t.blocking ∷ t.jitter ∷ []) ++ rest) e
      (rw (ne_eqb (version s) 1 h, ← drop-drop 20 at s, e) (bytes-value 4 t.blocking n.blocking))
      (rw (ne_eqb (version s) 1 h, ← drop-drop 24 at s, e) (bytes-value 4 t.jitter n.jitter))

  row_back : (rest : List ℕ) → drop at s ≡ row_bytes (version s) t ++ rest → (version s ≡ 1 → is_plain t ≡ true) → row_at s at ≡ t
  row_back rest e p = elim (eq-or-ne (version s) 1) [
    | inl o ↦ let b = eqb-true t.blocking 0 (and_left (eqb t.blocking 0) (eqb t.jitter 0) (p o)) in
        let j = eqb-true t.jitter 0 (and_right (eqb t.blocking 0) (eqb t.jitter 0) (p o)) in
        whole_back rest (rw (eq-eqb (version s) 1 o) at e) (rw (eq-eqb (version s) 1 o, b)) (rw (eq-eqb (version s) 1 o, j))
    | inr h ↦ wide_back rest h (rw (ne_eqb (version s) 1 h) at e)
  ]

-- the header's words, and what stands behind them
module _ (v n names total : ℕ) (rest : List ℕ) where
  abbrev whole : List ℕ
  whole = header_bytes v n names total ++ rest

  header-version : v < 256 ^ 2 → version whole ≡ v
  unfolding header_bytes words_of bytes_of
  header-version h = bytes-value 2 v h

  header-count : n < 256 ^ 2 → task_count whole ≡ n
  unfolding header_bytes words_of bytes_of
  header-count h = bytes-value 2 n h

  header-rows : rows_at whole ≡ header_width
  unfolding header_bytes words_of bytes_of
  header-rows = bytes-value 4 header_width (omega arith)

  header-names : names < 256 ^ 4 → names_at whole ≡ names
  unfolding header_bytes words_of bytes_of
  header-names h = bytes-value 4 names h

  header-total : total < 256 ^ 4 → total_length whole ≡ total
  unfolding header_bytes words_of bytes_of
  header-total h = bytes-value 4 total h

  header-behind : drop header_width whole ≡ rest
  unfolding header_bytes words_of bytes_of
  header-behind = refl

pub header-length : (v n names total : ℕ) → length (header_bytes v n names total) ≡ header_width
unfolding header_bytes words_of bytes_of
header-length v n names total = refl

-- written number by number
pub header-put : (b : List ℕ) (v n names total : ℕ) {vs ns : List ℕ} → vs ≡ to_le_bytes w16 v → ns ≡ to_le_bytes w16 n
    → sets (sets (sets b 0 vs) 2 ns) 4 (words_of (header_width ∷ names ∷ total ∷ []))
    ≡ sets b 0 (header_bytes v n names total)
unfolding header_bytes
header-put b v n names total e f = rw (e ∙ two-bytes v, f ∙ two-bytes n) (simp put_then)

-- tasks and names that fit their rows and fields
pub record Formable (ts : List Task) (ns : List (List ℕ)) : Type 0 where
  pub some : 1 ≤ length ts
  pub few : length ts ≤ max_tasks
  pub count : length ns ≡ length ts
  pub tasks : (i : ℕ) → i < length ts → Narrow (task_at ts i)
  pub names : (i : ℕ) → i < length ns → length (get_or ns i []) ≤ name_width

-- a name's field, and the name written with zeros behind it
pub name-long : (name : List ℕ) → length name ≤ name_width → length (name_bytes name) ≡ name_width
name-long name h = simp (length-append, length-replicate {A = ℕ}) (omega arith)

pub name-put : (out name : List ℕ) (at k : ℕ) {named zeros : List ℕ} → at + name_width ≤ length out
    → length name ≤ name_width → k ≡ name_width - length name → named ≡ sets out at name
    → zeros ≡ replicate (length (take k (drop (at + length name) named))) 0
    → put_mid (at + length name) k named zeros ≡ sets out at (name_bytes name)
name-put out name at k {named} {zeros} h l n e f =
    let size : length named ≡ length out = ap length e ∙ length-sets out at name in
    let few : k ≤ length (drop (at + length name) named) = simp length-drop (omega arith) in
    let z : zeros ≡ replicate (name_width - length name) 0 =
    f ∙ ap (λ m. replicate {A = ℕ} m 0) (length-take-le k (drop (at + length name) named) few ∙ n) in
    let long = length-replicate {A = ℕ} (name_width - length name) 0 in
    written-over named zeros (replicate (name_width - length name) 0) (at + length name) k (omega (arith, long))
    (n ∙ sym long) z
    ∙ rw e (sym (sets-append out name (replicate (name_width - length name) 0) at))

-- the areas: task i's row or name, and those behind it
pub row-length : (v : ℕ) (t : Task) → length (row_bytes v t) ≡ row_size v
row-length v t = words-length (take (row_numbers v) (row_of t)) ∙ ap (λ n. 4 * n) (row-front v t)

module _ (v : ℕ) (ts : List Task) where
  row-long : (i : ℕ) → i < length ts → length (row_bytes v (task_at ts i)) ≡ row_size v
  row-long i h = row-length v (task_at ts i)

  pub rows-from : (i : ℕ) → i < length ts
      → drop (row_size v * i) (rows_bytes v ts) ≡ row_bytes v (task_at ts i) ++ drop (row_size v * (i + 1)) (rows_bytes v ts)
  rows-from = joined-from (row_bytes v) no_task (row_size v) ts row-long

  pub rows-length : length (rows_bytes v ts) ≡ row_size v * length ts
  rows-length = joined_length (row_bytes v) no_task (row_size v) ts row-long

module _ (ns : List (List ℕ)) (h : (i : ℕ) → i < length ns → length (get_or ns i []) ≤ name_width) where
  field-long : (i : ℕ) → i < length ns → length (name_bytes (get_or ns i [])) ≡ name_width
  field-long i l = name-long (get_or ns i []) (h i l)

  pub names-from : (i : ℕ) → i < length ns
      → drop (name_width * i) (names_bytes ns) ≡ name_bytes (get_or ns i []) ++ drop (name_width * (i + 1)) (names_bytes ns)
  names-from = joined-from name_bytes [] name_width ns field-long

  pub names-length : length (names_bytes ns) ≡ name_width * length ns
  names-length = joined_length name_bytes [] name_width ns field-long

-- the whole form
module _ (ts : List Task) (ns : List (List ℕ)) (w : Formable ts ns) where
  abbrev form : List ℕ
  form = canonical ts ns

  abbrev v : ℕ
  v = version_for ts

  -- how wide its rows are
  abbrev width : ℕ
  width = row_size v

  abbrev areas : List ℕ
  areas = rows_bytes v ts ++ names_bytes ns

  rows_few : width * length ts ≤ 28 * max_tasks
  rows_few = omega (arith, mul-le-mul_left width w.few, row-range v)

  rows_to-is : rows_to ts ≡ header_width + width * length ts
  rows_to-is = ap (λ n. header_width + n) (rows-length v ts)

  names_to-is : names_to ts ns ≡ header_width + width * length ts + name_width * length ts
  names_to-is = omega (arith, rows-length v ts, names-length ns w.names, w.count)

  pub form-length : length form ≡ header_width + width * length ts + name_width * length ts
  unfolding canonical
  form-length =
      simp (length-append, header-length)
      (omega (arith, rows-length v ts, names-length ns w.names, w.count))

  pub form-version : version form ≡ v
  unfolding canonical
  form-version = header-version v (length ts) (rows_to ts) (names_to ts ns) areas (omega (arith, version-range ts))

  pub form-count : task_count form ≡ length ts
  unfolding canonical
  form-count = header-count v (length ts) (rows_to ts) (names_to ts ns) areas (omega (arith, w.few))

  pub form-rows : rows_at form ≡ header_width
  unfolding canonical
  form-rows = header-rows v (length ts) (rows_to ts) (names_to ts ns) areas

  pub form-names : names_at form ≡ header_width + width * length ts
  unfolding canonical
  form-names = header-names v (length ts) (rows_to ts) (names_to ts ns) areas (omega (arith, rows_to-is, rows_few)) ∙ rows_to-is

  form-total : total_length form ≡ length form
  unfolding canonical
  form-total =
      header-total v (length ts) (rows_to ts) (names_to ts ns) areas (omega (arith, names_to-is, rows_few, w.few)) ∙ names_to-is ∙ sym form-length

  form-behind : drop header_width form ≡ areas
  unfolding canonical
  form-behind = header-behind v (length ts) (rows_to ts) (names_to ts ns) areas

  -- task i and its name
  module _ (i : ℕ) (l : i < length ts) where
    row_from : drop (header_width + width * i) form ≡ row_bytes v (task_at ts i) ++ (drop (width * (i + 1)) (rows_bytes v ts) ++ names_bytes ns)
    row_from =
        let k : width * i ≤ length (rows_bytes v ts) = omega (arith, rows-length v ts, mul-le-mul_left width l) in
        rw (
          ← drop-drop (width * i) header_width form,
          form-behind,
          drop-append-le (width * i) (rows_bytes v ts) (names_bytes ns) k,
          rows-from v ts i l,
          append_assoc,
        )

    pub form-task : task_of form i ≡ task_at ts i
    form-task =
        let row = rw (← form-version) at row_from in
        rw form-rows
        (row_back form (header_width + row_size (version form) * i) (task_at ts i) (w.tasks i l) _ row (λ e. all_plain ts (sym form-version ∙ e) i l))

    pub form-name : name_field form i ≡ name_bytes (get_or ns i [])
    form-name =
        let m : i < length ns = rw w.count l in
        let e : header_width + width * length ts + name_width * i ≡ header_width + (length (rows_bytes v ts) + name_width * i) = omega (arith, rows-length v ts) in
        rw (
          form-names,
          e,
          ← drop-drop (length (rows_bytes v ts) + name_width * i) header_width form,
          form-behind,
          drop-append-add (rows_bytes v ts) (names_bytes ns) (name_width * i),
          names-from ns w.names i m,
        )
        (take_at (name_bytes (get_or ns i [])) _ name_width (name-long (get_or ns i []) (w.names i m)))

  -- no fault of layout, no gap
  pub form-laid_out : layout_fault form ≡ none
  form-laid_out =
      let n = length ts in
      let size = form-length in
      rw (
        le-between min_file (length form) max_file (omega arith) (omega (arith, rows_few, w.few)),
        form-version,
        le-between 1 v 2 (version-range ts).0 (version-range ts).1,
        form-total,
        eq-eqb (length form) (length form) refl,
        form-count,
        le-between 1 n max_tasks w.some w.few,
        form-rows,
        form-names,
        le-ltb (length form) (header_width + width * n) (omega arith),
        le-ltb (header_width + width * n) header_width (omega arith),
        le-ltb (length form) (header_width + width * n + name_width * n) (omega arith),
        le-ltb (header_width + width * n) (header_width + width * n) (omega arith),
        and-false,
      )

  no_gap : (at : ℕ) → header_width ≤ at → at < length form → in_gap form at ≡ false
  no_gap at h l =
      let n = length ts in
      elim (le-or-lt (header_width + width * n) at) [
        | inl p ↦ let e = area-spans (header_width + width * n) (header_width + width * n + name_width * n) at p (omega (arith, form-length)) in
            rw (form-version, form-count, form-rows, form-names, e, and-false)
        | inr p ↦ let e = area-spans header_width (header_width + width * n) at h p in
            rw (form-version, form-count, form-rows, form-names, e)
      ]

  pub form-no_gap : gap_fault form ≡ none
  form-no_gap =
      run-all (stray_fault form) (length form - header_width) header_width
      (λ at p q. rw (no_gap at p (omega (arith, form-length))))

  -- written area by area
  pub form-stored : (b : List ℕ) → length b ≡ names_to ts ns
      → sets (sets (sets b 0 (header_bytes v (length ts) (rows_to ts) (names_to ts ns))) header_width (rows_bytes v ts)) (rows_to ts) (names_bytes ns)
      ≡ canonical ts ns
  unfolding canonical
  form-stored b l =
      let head : List ℕ = header_bytes v (length ts) (rows_to ts) (names_to ts ns) in
      let first = rw (header-length v (length ts) (rows_to ts) (names_to ts ns)) at (sets-append b head areas 0) in
      let second = sets-append (sets b 0 head) (rows_bytes v ts) (names_bytes ns) header_width in
      sym (first ∙ second) ∙ sets-whole b (head ++ areas) (l ∙ names_to-is ∙ sym form-length)
