-- The search by any rule, round by round: an equation for each way that a round goes; where a node lies does not matter.
use mathlib.Core.Path.{◌≡◌, refl, sym, ◌∙◌}
use mathlib.Core.Bool.{true, false}
use mathlib.Core.Logic.{inl, inr}
use mathlib.Core.List.{List, []}
use Prim.Native.Nat.{ℕ, zero, suc, ◌≤◌, ◌<◌}
use native.Mathlib.Omega.{arith}
use lib.ListN.{length}
use borrow.Author.Tests.{lt-ltb, le-ltb}
use Rattle.plan.proofs.Tests.{bool, le-or-lt}
use Rattle.response.specs.Assignments.{cost}
use Rattle.optimizer.specs.Nodes.{without, SameNodes}
use Rattle.optimizer.specs.Rule.{Rule, End, ended, least, rest, next, search_from}
use Rattle.optimizer.proofs.Multiset.{same-nodes-without, same_length, same-least, same-expanded}

module _ (R : Rule) where
  module _ (room rounds : ℕ) (s : R.State) (ps : List (List ℕ)) where
    pub search-spent : search_from R 0 room rounds s ps ≡ ended 33 [] rounds (cost R.weights (least R ps)) s
    unfolding search_from
    search-spent = refl

    module _ (left : ℕ) where
      pub search-answer : R.answers s (least R ps) ≡ true
          → search_from R (suc left) room rounds s ps ≡ ended 0 (least R ps) (suc rounds) 0 s
      unfolding search_from
      search-answer e = rw (e, search_from)

      module _ (e : R.answers s (least R ps) ≡ false) where
        pub search-full : room < length (next R s ps)
            → search_from R (suc left) room rounds s ps ≡ ended 34 [] (suc rounds) (cost R.weights (least R ps)) (R.after s (least R ps))
        unfolding search_from
        search-full h = rw (e, search_from) (rw (lt-ltb room (length (next R s ps)) h))

        pub search-on : length (next R s ps) ≤ room
            → search_from R (suc left) room rounds s ps ≡ search_from R left room (suc rounds) (R.after s (least R ps)) (next R s ps)
        unfolding search_from
        search-on h = rw (e, search_from) (rw (le-ltb room (length (next R s ps)) h))

      -- what holds of each end that a round can come to, and of what comes after it, holds of the search
      pub round-cases : (P : End R.State → Type 0)
          → (R.answers s (least R ps) ≡ true → P (ended 0 (least R ps) (suc rounds) 0 s))
          → (R.answers s (least R ps) ≡ false → room < length (next R s ps)
          → P (ended 34 [] (suc rounds) (cost R.weights (least R ps)) (R.after s (least R ps))))
          → (R.answers s (least R ps) ≡ false → length (next R s ps) ≤ room
          → P (search_from R left room (suc rounds) (R.after s (least R ps)) (next R s ps)))
          → P (search_from R (suc left) room rounds s ps)
      round-cases P a f o = elim (bool (R.answers s (least R ps))) [
        | inl e ↦ rw (search-answer e) (a e)
        | inr e ↦ elim (le-or-lt (length (next R s ps)) room) [ inl h ↦ rw (search-on e h) (o e h) | inr h ↦ rw (search-full e h) (f e h) ]
      ]

  same_next : (s : R.State) (ps qs : List (List ℕ)) → SameNodes ps qs → SameNodes (next R s ps) (next R s qs)
  same_next s ps qs h =
      let e : least R ps ≡ least R qs = same-least ps qs h R.weights in
      rw e (same-expanded (R.children s (least R qs)) (without (least R qs) ps) (rest R qs) (same-nodes-without ps qs h (least R qs)))

  pub search-same : (left room rounds : ℕ) (s : R.State) (ps qs : List (List ℕ)) → SameNodes ps qs
      → search_from R left room rounds s ps ≡ search_from R left room rounds s qs
  search-same zero room rounds s ps qs h =
      search-spent room rounds s ps ∙ rw (same-least ps qs h R.weights) (sym (search-spent room rounds s qs))
  search-same (suc left) room rounds s ps qs h =
      let e : least R ps ≡ least R qs = same-least ps qs h R.weights in
      let n = same_next s ps qs h in
      let m : length (next R s ps) ≡ length (next R s qs) = same_length (next R s ps) (next R s qs) n in
      round-cases room rounds s ps left (λ x. x ≡ search_from R (suc left) room rounds s qs)
      (λ a. rw e (sym (search-answer room rounds s qs left (rw e at a))))
      (λ a f. rw e (sym (search-full room rounds s qs left (rw e at a) (omega arith))))
      (λ a f. search-same left room (suc rounds) (R.after s (least R ps)) (next R s ps) (next R s qs) n
      ∙ rw e (sym (search-on room rounds s qs left (rw e at a) (omega arith))))
