-- The nodes that a work space holds, under writing a stretch, adding a node and moving the last one.
use mathlib.Core.Path.{◌≡◌, refl, sym, ◌∙◌, ap}
use mathlib.Core.Logic.{inl, inr}
use mathlib.Core.List.{List, [], ◌∷◌, ◌++◌, append_assoc}
use Prim.Native.Nat.{ℕ, zero, suc, ◌+◌, ◌-◌, ◌*◌, ◌≤◌, ◌<◌}
use native.Mathlib.Nat.{suc-mul, zero-mul, zero-add, add_comm, add_assoc, mul-le-mul_right}
use native.Mathlib.Numerals.{add-one}
use native.Mathlib.Omega.{arith}
use lib.ListN.{length, get_or, take, drop, set, length-drop, length-set}
use lib.Seq.{set_at, length-take-le, take-add, drop-drop, take_at, drop_at, set-append_left, get_or-set_same, get_or-set_other}
use Rattle.std.specs.List.{copy_within}
use Rattle.plan.proofs.Tests.{eq-or-ne}
use Rattle.optimizer.specs.Nodes.{occurrences, without, SameNodes}
use Rattle.optimizer.specs.Inner.{node_at, nodes, put}
use Rattle.optimizer.proofs.Multiset.{occurrences-append, occurrences-set, occurrences-without}

pub length-nodes : (count n : ℕ) (work : List ℕ) → length (nodes count n work) ≡ count
length-nodes zero n work = refl
length-nodes (suc count) n work = ap suc (length-nodes count n (drop n work))

-- the stretches of count nodes lie in a space of count * n
pub in-space : (n : ℕ) {k count m : ℕ} → k < count → count * n ≤ m → k * n + n ≤ m
in-space n {k} {count} h r = omega (arith, mul-le-mul_right n h, suc-mul k n)

pub length-node : (n k : ℕ) (work : List ℕ) → k * n + n ≤ length work → length (node_at work n k) ≡ n
length-node n k work h = length-take-le n (drop (k * n) work) (omega (arith, length-drop (k * n) work))

pub nodes-at : (count n : ℕ) (work : List ℕ) (k : ℕ) → k < count → get_or (nodes count n work) k [] ≡ node_at work n k
nodes-at zero n work k h = absurd (omega arith)
nodes-at (suc count) n work zero h = rw (zero-mul n)
nodes-at (suc count) n work (suc k) h =
    rw (suc-mul k n, add_comm (k * n) n, ← drop-drop (k * n) n work) (nodes-at count n (drop n work) k (omega arith))

-- a node copied from one place to another
pub copied_within : (work : List ℕ) (from at n : ℕ) → from + n ≤ length work → copy_within work from (from + n) at ≡ put work at (take n (drop from work))
copied_within work from at n h =
    let s : from + n - from ≡ n = omega arith in
    let l = length-take-le n (drop from work) (omega (arith, length-drop from work)) in
    rw (s, append_assoc, l)

put-split : (n m : ℕ) (work node : List ℕ) → put work (n + m) node ≡ take n work ++ put (drop n work) m node
put-split n m work node = rw (take-add n m work, append_assoc, drop-drop, add_assoc)

nodes-put : (count n : ℕ) (work : List ℕ) (k : ℕ) (node : List ℕ) → k < count → count * n ≤ length work → length node ≡ n
    → nodes count n (put work (k * n) node) ≡ set (nodes count n work) k node
nodes-put zero n work k node h r e = absurd (omega arith)
nodes-put (suc count) n work zero node h r e =
    rw (zero-mul n, take_at node (drop (0 + length node) work) n e, drop_at node (drop (0 + length node) work) n e, zero-add, e)
nodes-put (suc count) n work (suc k) node h r e =
    let s : n + count * n ≤ length work = omega (arith, rw (suc-mul count n) at r) in
    let t = length-take-le n work (omega arith) in
    let v : List ℕ = put (drop n work) (k * n) node in
    rw (suc-mul k n, add_comm (k * n) n, put-split n (k * n) work node, take_at (take n work) v n t, drop_at (take n work) v n t)
    (ap (λ l. take n work ∷ l) (nodes-put count n (drop n work) k node (omega arith) (rw (length-drop n work) (omega arith)) e))

nodes-suc : (count n : ℕ) (work : List ℕ) → nodes (suc count) n work ≡ nodes count n work ++ (node_at work n count ∷ [])
nodes-suc zero n work = rw (zero-mul n)
nodes-suc (suc count) n work =
    ap (λ l. take n work ∷ l)
    (rw (suc-mul count n, add_comm (count * n) n, ← drop-drop (count * n) n work) (nodes-suc count n (drop n work)))

-- a node written after the others
nodes-append : (count n : ℕ) (work node : List ℕ) → count * n + n ≤ length work → length node ≡ n
    → nodes (count + 1) n (put work (count * n) node) ≡ nodes count n work ++ (node ∷ [])
nodes-append count n work node r e =
    rw (add-one count)
    (nodes-put (suc count) n work count node (omega arith) (omega (arith, suc-mul count n)) e
    ∙ ap (λ l. set l count node) (nodes-suc count n work)
    ∙ set_at (nodes count n work) (node_at work n count) [] node count (length-nodes count n work))

pub first-node : {n : ℕ} (work : List ℕ) {work' node : List ℕ} → length node ≡ n → work' ≡ put work (0 * n) node
    → take n work' ≡ node
first-node {n} work {work'} {node} e f = rw (f, zero-mul n) (take_at node (drop (0 + length node) work) n e)

-- and one of its periods set
set-put : (at : ℕ) (work node : List ℕ) (i v : ℕ) → at ≤ length work → i < length node
    → set (put work at node) (at + i) v ≡ put work at (set node i v)
set-put zero work node i v r h = rw (zero-add i, set-append_left node (drop (0 + length node) work) i v h, length-set node i v)
set-put (suc at) [] node i v r h = absurd (omega arith)
set-put (suc at) (x ∷ work) node i v r h =
    let e : suc at + i ≡ suc (at + i) = omega arith in
    let f : suc at + length node ≡ suc (at + length node) = omega arith in
    let g : suc at + length (set node i v) ≡ suc (at + length (set node i v)) = omega arith in
    rw (e, f, g) (ap (λ l. x ∷ l) (set-put at work node i v (omega arith) h))

pub nodes-append-set : (count : ℕ) (work node : List ℕ) (i v : ℕ) → count * length node + length node ≤ length work
    → i < length node
    → nodes (count + 1) (length node) (set (put work (count * length node) node) (count * length node + i) v)
    ≡ nodes count (length node) work ++ (set node i v ∷ [])
nodes-append-set count work node i v r h =
    rw (set-put (count * length node) work node i v (omega arith) h)
    (nodes-append count (length node) work (set node i v) r (length-set node i v))

last_set : (ps : List (List ℕ)) (k c : ℕ) (q : List ℕ) → k < length ps → get_or ps c [] ≡ q → get_or (set ps k q) c [] ≡ q
last_set ps k c q h e =
    elim (eq-or-ne c k) [ inl t ↦ rw t (get_or-set_same ps k q [] h) | inr t ↦ get_or-set_other ps k c q [] t ∙ e ]

-- the last node in the place of node k, and off the end: node k is no longer listed
last-moved : (ps rest : List (List ℕ)) (k : ℕ) {r : List ℕ} (p q : List ℕ) → k < length ps → get_or ps k [] ≡ r
    → set ps k q ≡ rest ++ (q ∷ []) → occurrences p rest ≡ occurrences p (without r ps)
last-moved ps rest k {r} p q h at_k e =
    let s = rw at_k at (occurrences-set p ps k q h) in
    let w = occurrences-without p r ps in
    let t : occurrences p (set ps k q) ≡ occurrences p rest + occurrences p (q ∷ []) =
    ap (occurrences p) e ∙ occurrences-append p rest (q ∷ []) in
    omega arith

-- the last node moved into stretch k: the one that was there is no longer open
nodes-remove : (count n : ℕ) (work : List ℕ) (k : ℕ) → k < count → count * n ≤ length work
    → SameNodes (nodes (count - 1) n (put work (k * n) (node_at work n (count - 1)))) (without (node_at work n k) (nodes count n work))
nodes-remove zero n work k h r p = absurd (omega arith)
nodes-remove (suc count) n work k h r p =
    let d : suc count - 1 ≡ count = omega arith in
    let ps = nodes (suc count) n work in
    let q : List ℕ = node_at work n count in
    let v : List ℕ = put work (k * n) q in
    let l : k < length ps = omega (arith, length-nodes (suc count) n work) in
    let e : nodes (suc count) n v ≡ set ps k q =
    nodes-put (suc count) n work k q h r (length-node n count work (in-space n (omega arith) r)) in
    let m : node_at v n count ≡ q = sym (nodes-at (suc count) n v count (omega arith)) ∙ ap (λ x. get_or x count []) e
    ∙ last_set ps k count q l (nodes-at (suc count) n work count (omega arith)) in
    let t : nodes (suc count) n v ≡ nodes count n v ++ (q ∷ []) = nodes-suc count n v ∙ ap (λ x. nodes count n v ++ (x ∷ [])) m in
    rw d (last-moved ps (nodes count n v) k p q l (nodes-at (suc count) n work k h) (sym e ∙ t))

pub nodes-removed : (count n : ℕ) (work : List ℕ) (k : ℕ) → k < count → count * n ≤ length work
    → {q work' : List ℕ} → q ≡ node_at work n (count - 1) → work' ≡ put work (k * n) q
    → SameNodes (nodes (count - 1) n work') (without (node_at work n k) (nodes count n work))
nodes-removed count n work k h r e f = rw (f, e) (nodes-remove count n work k h r)
