-- Rounds are at most the budget and at most the number of assignments within the bounds; with that much budget and room no search stops.
use mathlib.Core.Path.{◌≡◌, refl, sym, ◌∙◌}
use mathlib.Core.Bool.{Bool, true, false, false≢true}
use mathlib.Core.Logic.{◌⊎◌, inl, inr}
use mathlib.Core.List.{List, []}
use Prim.Native.Nat.{ℕ, zero, suc, ◌+◌, ◌≤◌, ◌<◌}
use native.Mathlib.Omega.{arith}
use Rattle.plan.specs.declared.tasks.Task.{Task}
use Rattle.plan.specs.Lists.{same}
use Rattle.plan.proofs.Tests.{both, not-false}
use Rattle.response.specs.Assignments.{assignment_count, dominates}
use Rattle.response.proofs.Dominance.{same_refl, at-most-antisym, at-most-dominates, dominates-down}
use Rattle.response.proofs.Order.{dominating-later}
use Rattle.response.proofs.Bounds.{dominates-within}
use Rattle.optimizer.specs.Nodes.{dominates_some, kept}
use Rattle.optimizer.specs.Rule.{Rule, least, rest, next, search_from}
use Rattle.optimizer.proofs.Multiset.{Listed, listed-append, occurrences-without, dominates-listed, dominated, kept-le}
use Rattle.optimizer.proofs.Steps.{search-spent, round-cases}
use Rattle.optimizer.proofs.Optimal.{Branches, Lawful, Open, least-listed, least-within, least-branches, carried-next, open_next}
use Rattle.optimizer.proofs.Counting.{assignments, length-assignments, listed-assignments, few-within, tally, tally-all, tally-less}

pub rounds-budget : (R : Rule) (left room rounds : ℕ) (s : R.State) (ps : List (List ℕ))
    → (search_from R left room rounds s ps).rounds ≤ rounds + left
rounds-budget R zero room rounds s ps = rw (search-spent R room rounds s ps) (omega arith)
rounds-budget R (suc left) room rounds s ps =
    round-cases R room rounds s ps left (λ e. e.rounds ≤ rounds + suc left)
    (λ e. omega arith)
    (λ e h. omega arith)
    (λ e h. omega (arith, rounds-budget R left room (suc rounds) (R.after s (least R ps)) (next R s ps)))

-- how many assignments within the bounds dominate an open node: less after each round
unfoldable pub ahead : List Task → List (List ℕ) → ℕ
ahead ts ps = tally (λ xs. dominates_some xs ps) (assignments ts)

pub ahead-all : (ts : List Task) (ps : List (List ℕ)) → ahead ts ps ≤ assignment_count ts
unfolding ahead
ahead-all ts ps = omega (arith, tally-all (λ xs. dominates_some xs ps) (assignments ts), length-assignments ts)

module _ {ts : List Task} {test : List ℕ → Bool} {R : Rule} {Carried : R.State → Type 0} (𝓛 : Lawful ts test R Carried) where
  module _ {ps : List (List ℕ)} (o : Open ts test ps) where
    abbrev l : List ℕ
    l = least R ps

    fewer : (qs : List (List ℕ)) → ((xs : List ℕ) → dominates_some xs qs ≡ true → dominates_some xs ps ≡ true)
        → dominates_some l qs ≡ false → ahead ts qs < ahead ts ps
    unfolding ahead
    fewer qs h d =
        tally-less (λ xs. dominates_some xs qs) (λ xs. dominates_some xs ps) h l d
        (dominates-listed l l ps (least-listed 𝓛 o).listed (at-most-dominates l l (λ k. omega arith)))
        (assignments ts) (listed-assignments ts l (least-within 𝓛 o))

    ahead-some : 1 ≤ ahead ts ps
    ahead-some = omega (arith, fewer [] (λ xs e. absurd (false≢true e)) refl)

    module _ (s : R.State) (c : Carried s) (e : R.answers s l ≡ false) where
      b : Branches ts test l (R.children s l)
      b = least-branches 𝓛 s c o e

      -- what is listed next was listed, or is a child
      listed_next : (q : List ℕ) → Listed q (next R s ps) → (Listed q (rest R ps)) ⊎ Listed q (R.children s l)
      listed_next q h = elim (listed-append q (rest R ps) (kept (R.children s l) (rest R ps)) h) [
        | inl a ↦ inl a
        | inr a ↦ inr (omega (arith, kept-le q (R.children s l) (rest R ps)))
      ]

      -- the least node dominates none of those that are listed next
      past : (q : List ℕ) → Listed q (next R s ps) → dominates l q ≡ true → ⊥
      past q h d =
          let v = (open_next 𝓛 s c o e).within q h in
          let n = v.sized ∙ sym (least-within 𝓛 o).sized in
          let a = dominates-within v (least-within 𝓛 o) d in
          elim (listed_next q h) [
            | inl r ↦ elim (dominating-later R.weights q l n a) [
              | inl z ↦ let t : same q l ≡ true = rw z (same_refl l) in
                  omega (arith, rw t at (occurrences-without q l ps), o.once q)
              | inr t ↦ both t ((least-listed 𝓛 o).least q (omega (arith, occurrences-without q l ps)))
            ]
            | inr r ↦ b.other q r (at-most-antisym l q (sym n) (b.above q r) a)
          ]

      still : (xs : List ℕ) → dominates_some xs (next R s ps) ≡ true → dominates_some xs ps ≡ true
      still xs d = let q = dominated xs (next R s ps) d in elim (listed_next q.0 q.1) [
        | inl r ↦ dominates-listed xs q.0 ps (omega (arith, occurrences-without q.0 l ps)) q.2
        | inr r ↦ let n = (least-within 𝓛 o).sized ∙ sym (b.within q.0 r).sized in
            dominates-listed xs l ps (least-listed 𝓛 o).listed (dominates-down xs q.0 l n (b.above q.0 r) q.2)
      ]

      ahead-less : ahead ts (next R s ps) < ahead ts ps
      ahead-less = fewer (next R s ps) still (not-false (λ d. let q = dominated l (next R s ps) d in past q.0 q.1 q.2))

  pub rounds-few : (left room rounds : ℕ) (s : R.State) (ps : List (List ℕ)) → Carried s → Open ts test ps
      → (search_from R left room rounds s ps).rounds ≤ rounds + ahead ts ps
  rounds-few zero room rounds s ps c o = rw (search-spent R room rounds s ps) (omega arith)
  rounds-few (suc left) room rounds s ps c o =
      round-cases R room rounds s ps left (λ e. e.rounds ≤ rounds + ahead ts ps)
      (λ e. omega (arith, ahead-some o))
      (λ e h. omega (arith, ahead-some o))
      (λ e h. let m = rounds-few left room (suc rounds) _ (next R s ps) (carried-next 𝓛 s c o e) (open_next 𝓛 s c o e) in
      omega (arith, ahead-less o s c e))

  pub never-stops : (left room rounds : ℕ) (s : R.State) (ps : List (List ℕ)) → Carried s → Open ts test ps
      → ahead ts ps ≤ left → assignment_count ts ≤ room → (search_from R left room rounds s ps).number ≡ 0
  never-stops zero room rounds s ps c o h k = let z : ⊥ = omega (arith, ahead-some o) in absurd z
  never-stops (suc left) room rounds s ps c o h k =
      round-cases R room rounds s ps left (λ e. e.number ≡ 0)
      (λ e. refl)
      (λ e f. let n = open_next 𝓛 s c o e in
      let z : ⊥ = omega (arith, few-within ts (next R s ps) n.once n.within) in absurd z)
      (λ e f. never-stops left room (suc rounds) (R.after s (least R ps)) (next R s ps)
      (carried-next 𝓛 s c o e) (open_next 𝓛 s c o e) (omega (arith, ahead-less o s c e)) k)
