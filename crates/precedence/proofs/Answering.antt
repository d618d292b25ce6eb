-- FEEDERS: from its rules and masks to its answer.
use mathlib.Core.Path.{◌≡◌, refl, sym, ap, ◌∙◌}
use mathlib.Core.Bool.{true≢false}
use mathlib.Core.List.{List, map}
use Prim.Native.Nat.{ℕ, suc, ◌≤◌, ◌<◌, ◌^◌}
use native.Mathlib.Omega.{arith}
use lib.ListN.{length, get_or, take, length-map}
use borrow.Author.Tests.{eq-eqb}
use Rattle.std.specs.Prelude.{Option, unwrap_or, Ok, count_ones}
use Rattle.std.proofs.lemmas.List.{get_or-map, get_or-take, length-take-le}
use Rattle.plan.specs.Faults.{none, or_else}
use Rattle.plan.specs.Tasks.{max_tasks}
use Rattle.plan.proofs.Rules.{or-first, or-second, or-next}
use Rattle.precedence.specs.declared.pairs.Pair.{Pair}
use Rattle.precedence.specs.Pairs.{pairs_of, list_fault, pairs_fault, first_misordered}
use Rattle.precedence.specs.Chains.{Predecessors}
use Rattle.precedence.specs.Inner.{HasChains}
use Rattle.precedence.specs.Promises.{precedence_fault, precedence_answer, CountsPredecessors}
use Rattle.precedence.proofs.Bits.{ones-below}

-- a count of each mask's ones
counted : (ps : List Pair) (masks : List ℕ) → HasChains ps masks → (i : ℕ) → get_or masks i 0 < 2 ^ max_tasks
    → Predecessors ps (suc i) (count_ones (get_or masks i 0))
counted ps masks h i few = record {
  mask = get_or masks i 0;
  chains = h i;
  ones = refl;
  distinct = ones-below max_tasks (get_or masks i 0) few;
}

no-fault : (n : ℕ) (list : List ℕ) (space : ℕ)
    → none ≡ or_else (list_fault list) (pairs_fault n (pairs_of list)) → space ≡ n
    → precedence_fault none n list space ≡ none
no-fault n list space passed sized =
    let z = sym (ap (λ f. f.number) passed) in
    let l = or-first (list_fault list) (pairs_fault n (pairs_of list)) z in
    let p = or-second (list_fault list) (pairs_fault n (pairs_of list)) z in
    rw (or-next (list_fault list) _ l, or-next (pairs_fault n (pairs_of list)) _ p, eq-eqb space n sized) refl

pub answered : {n : ℕ} (list : List ℕ) {o o' : List ℕ} (masks : List ℕ) (pair : Option ℕ)
    → none ≡ or_else (list_fault list) (pairs_fault n (pairs_of list)) → length o ≡ n
    → n ≤ length masks → ((i : ℕ) → get_or masks i 0 < 2 ^ max_tasks) → HasChains (pairs_of list) masks
    → o' ≡ map count_ones (take (length o) masks) → unwrap_or pair 0 ≡ first_misordered (pairs_of list)
    → CountsPredecessors none n list o o' (precedence_answer (Ok pair))
answered {n} list {o} {o'} masks pair passed sized few fits chains counts is =
    let first : List ℕ = take (length o) masks in
    let long : length first ≡ n = omega (arith, length-take-le (length o) masks (omega arith), sized) in
    record {
      fault = sym (no-fault n list (length o) passed sized);
      pair = is;
      sized = rw counts (length-map first count_ones ∙ long ∙ sym sized);
      counts = λ _ i h.
          let at = get_or-map count_ones first i 0 0 (omega arith) in
          rw (counts, at, get_or-take (length o) masks i 0 (omega arith))
          (counted (pairs_of list) masks chains i (fits i));
      unchanged = λ e. absurd (true≢false e);
    }
