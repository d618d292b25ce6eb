use Rattle.std.proofs.Common.{◌≡◌, ◌<◌, ◌≤◌, ℕ, List, length, get_or, arith, rules, tests}
use Rattle.std.specs.List.{zip, HoldsAt, AllWithin}
use Rattle.std.specs.Prelude.{MatchOption}
use Rattle.std.proofs.lemmas.Iterator.{YieldsList-from_slice, YieldsList-from_zip, IsFirst-from_position}
use Rattle.std.proofs.lemmas.Slice.Zip.{length-zip, get_or-zip}
use Rattle.optimizer.proofs.Drop.{Once, Counted, count-here, count-not, only-once, drops-all, drops-two, drops-one, drops-none}
use Rattle.optimizer.proofs.children.dropped_by.Goals as goal
use Rattle.optimizer.proofs.children.dropped_by.Goals.{After-position, then-period-q, else-period-q}

-- the pair of place n
pair-at : (node q : List ℕ) (n : ℕ) → n < length node → length q ≡ length node
    → (n < length (zip node q)) × (get_or (zip node q) n (0, 0) ≡ (get_or node n 0, get_or q n 0))
pair-at node q n h l = (omega (arith, length-zip node q), get_or-zip node q n (0, 0) h (omega arith))

pub loop-i-preserved : goal.loop-i-preserved
loop-i-preserved c =
    let h : c.loop-i.i < length c.args.node.now = omega arith in
    elim c.if-period-q.branch [
      | then-period-q w ↦ rw w.over-is (count-here c.loop-i.invariant h w.if-period-q.true)
      | else-period-q w ↦ rw w.over-is (count-not c.loop-i.invariant h w.if-period-q.false)
    ]

pub returns-then-over-gt1 : goal.returns-then-over-gt1
returns-then-over-gt1 c = drops-two _ c.requires.0 c.requires.2 c.loop-i.invariant c.if-over-gt1.true

first : (c : After-position) → let pairs = zip c.args.node.now c.args.q.now in
    MatchOption c.position.result (AllWithin (λ r. r.1 ≤ r.0) pairs 0 (length pairs))
    (λ i. (i < length pairs) × HoldsAt (λ r. r.0 < r.1) pairs i × AllWithin (λ r. r.1 ≤ r.0) pairs 0 i)
first c =
    IsFirst-from_position c.position.new.self _ c.position.result (λ (r : ℕ × ℕ). r.0 < r.1) (λ (r : ℕ × ℕ). r.1 ≤ r.0) c.position.ensures.ran
    (YieldsList-from_zip (YieldsList-from_slice c.args.node.now (cc)) (YieldsList-from_slice c.args.q.now (cc)))
    (λ x q k. search (rules, tests))
    (λ x q k. search (rules, tests))

pub returns-in_default : goal.returns-in_default
returns-in_default c =
    let f = rw c.in_default.is at (first (goal.at.returns-in_default c).After-position) in
    drops-all _ c.requires.0 c.requires.2 (λ j h.
    let p = pair-at c.args.node.now c.args.q.now j h c.requires.0 in
    rw p.1 at (f j (0, 0) (omega arith) p.0))

-- the one place
one : {q node : List ℕ} {times i at : ℕ} → Counted q node times i → length node ≤ i → times ≤ 1 → length q ≡ length node
    → at < length (zip node q) → HoldsAt (λ r. r.0 < r.1) (zip node q) at → Once q node at (length node)
one {q} {node} {at = at} x d l e i m =
    let h : at < length node = omega (arith, length-zip node q) in
    only-once x d l h (rw (pair-at node q at h e).1 at (m (0, 0)))

pub returns-then-q-at : goal.returns-then-q-at
returns-then-q-at c =
    let g = goal.at.returns-then-q-at c in
    let f = rw c.in-Some.is at (first g.After-position) in
    drops-one _ c.requires.0 c.requires.2 (one c.loop-i.invariant (omega arith) c.if-over-gt1.false c.requires.0 f.0 f.1) c.if-q-at.true

pub returns : goal.returns
returns c =
    let g = goal.at.returns c in
    let f = rw c.in-Some.is at (first g.After-position) in
    drops-none _ c.requires.0 c.requires.2 (one c.loop-i.invariant (omega arith) c.if-over-gt1.false c.requires.0 f.0 f.1) c.if-q-at.false
