-- Two rules that answer and branch alike, whatever each carries along, end alike: in all but their state.
use mathlib.Core.Path.{◌≡◌, refl, ap}
use mathlib.Core.List.{List}
use Prim.Native.Nat.{ℕ, zero, suc}
use Rattle.optimizer.specs.Nodes.{least_of}
use Rattle.optimizer.specs.Rule.{Rule, End, least, next, search_from}
use Rattle.optimizer.proofs.Steps.{search-spent, search-answer, search-full, search-on, round-cases}

pub record Alike {S T : Type 0} (e : End S) (f : End T) : Type 0 where
  pub number : e.number ≡ f.number
  pub periods : e.periods ≡ f.periods
  pub rounds : e.rounds ≡ f.rounds
  pub bound : e.bound ≡ f.bound

module _ (R Q : Rule) (weights : R.weights ≡ Q.weights)
    (answers : (s : R.State) (t : Q.State) (l : List ℕ) → R.answers s l ≡ Q.answers t l)
    (children : (s : R.State) (t : Q.State) (l : List ℕ) → R.children s l ≡ Q.children t l) where
  least-alike : (ps : List (List ℕ)) → least R ps ≡ least Q ps
  least-alike ps = ap (λ (ws : List ℕ). least_of ws ps) weights

  next-alike : (s : R.State) (t : Q.State) (ps : List (List ℕ)) → next R s ps ≡ next Q t ps
  next-alike s t ps = rw (weights, children s t)

  pub end-alike : (left room rounds : ℕ) (s : R.State) (t : Q.State) (ps : List (List ℕ))
      → Alike (search_from R left room rounds s ps) (search_from Q left room rounds t ps)
  end-alike zero room rounds s t ps =
      rw (search-spent R room rounds s ps, search-spent Q room rounds t ps, weights)
      (record { number = refl; periods = refl; rounds = refl; bound = refl })
  end-alike (suc left) room rounds s t ps =
      let l = least-alike ps in let n = next-alike s t ps in
      round-cases R room rounds s ps left (λ e. Alike e (search_from Q (suc left) room rounds t ps))
      (λ a. rw (search-answer Q room rounds t ps left (rw (answers s t, l) at a))
      (record { number = refl; periods = l; rounds = refl; bound = refl }))
      (λ a h. rw (search-full Q room rounds t ps left (rw (answers s t, l) at a) (rw n at h))
      (record { number = refl; periods = refl; rounds = refl; bound = rw weights }))
      (λ a h. rw (search-on Q room rounds t ps left (rw (answers s t, l) at a) (rw n at h), ← n)
      (end-alike left room (suc rounds) (R.after s (least R ps)) (Q.after t (least Q ps)) (next R s ps)))
