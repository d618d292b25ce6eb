use Rattle.std.proofs.Common.{rules, tests, ◌≡◌, ◌+◌, ℕ, zero, suc, List, [], ◌∷◌, refl, ap, subst, ◌∙◌, add-one, arith}
use Rattle.std.specs.Prelude.{length, Option, MatchOption, ◌-◌, ◌<◌}
use Rattle.std.proofs.Math.Bool.{and_comm}
use Rattle.std.specs.List.{list_all}
use Rattle.std.specs.Iterator.Adapters.{rev_source, rev_steps}
use Rattle.std.specs.declared.iter.Rev.{Rev}
use Rattle.std.specs.declared.ops.Range.{Range}
use Rattle.std.proofs.lemmas.Iterator.{YieldsList}
use Rattle.std.proofs.lemmas.Iterator.Search.{all_from_yields_List}
use Rattle.std.proofs.lemmas.Iterator.Splits.{YieldsList-from_shown_while}
use Rattle.plan.specs.declared.tasks.Task.{Task}
use Rattle.response.specs.Analysis.{meets, first_meet, schedulable}
use Rattle.response.proofs.assignment.Assignment.is_schedulable.Goals as goal

-- the numbers below n, the greatest first
abbrev down : ℕ → List ℕ
down zero = []
down (suc n) = n ∷ down n

all-down : (ts : List Task) (xs : List ℕ) (n : ℕ) → list_all (meets ts xs) (down n) ≡ first_meet ts xs n
all-down ts xs zero = refl
all-down ts xs (suc n) = rw (all-down ts xs n) (and_comm (meets ts xs n) (first_meet ts xs n))

-- a step of a range from its end
abbrev steps_back : Rev (Range ℕ) → Option ℕ → Rev (Range ℕ) → Type 0
steps_back = rev_steps (λ s r t. (t.start ≡ s.start) × MatchOption r ((s.end - s.start ≡ 0) × (t.end ≡ s.end))
    (λ x. (0 < s.end - s.start) × (x ≡ t.end) × (s.end ≡ t.end + 1)))

road : {s : Rev (Range ℕ)} (n : ℕ) → rev_source s ≡ record { start = 0; end = n }
    → YieldsList steps_back (λ x. x) s (down n)
road {s} n e = subst (λ (r : Range ℕ). YieldsList steps_back (λ x. x) s (down r.end)) e
    (YieldsList-from_shown_while steps_back (λ x. x) (λ u. down (rev_source u).end) (λ u. (rev_source u).start ≡ 0)
    (λ u t z g. let e : (rev_source u).end ≡ 0 = omega (arith, g.1.0) in rw e)
    (λ u x t z g. (g.0 ∙ z, rw (g.1.2, add-one, g.1.1)))
    s (ap (λ (r : Range ℕ). r.start) e))

pub returns : goal.returns
unfolding schedulable
returns c =
    let ts = c.args.self.now.tasks.now in
    let xs = c.args.self.now.periods.now in
    let road = road (length xs) c.rev.ensures.source in
    let all = all_from_yields_List (meets ts xs) _ _ c.all.result c.all.ensures.ran road
    (λ x b q k. search (rules, tests)) in
    rw (← c.args.self.now.limits.sized) (all ∙ all-down ts xs (length xs))
