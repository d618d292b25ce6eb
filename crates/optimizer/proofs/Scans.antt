-- Cost one period at a time, the least node one node at a time.
use mathlib.Core.Path.{◌≡◌, refl, sym, ◌∙◌, ap}
use mathlib.Core.Bool.{Bool, true, false, cond}
use mathlib.Core.List.{List, [], ◌∷◌}
use Prim.Native.Nat.{ℕ, ◌+◌, ◌*◌, ◌≤◌, ◌<◌}
use native.Mathlib.Nat.{mul-le-mul_right}
use native.Mathlib.Numerals.{add-one}
use native.Mathlib.Omega.{arith}
use lib.ListN.{length, get_or, drop, length-map, drop_of_length-le}
use lib.Seq.{drop-cons}
use Rattle.plan.specs.declared.tasks.Task.{Task}
use Rattle.plan.specs.Tasks.{max_tasks, AllValid, weights}
use Rattle.response.specs.Assignments.{cost, by_cost, less}
use Rattle.response.proofs.Ranges.{light}
use Rattle.optimizer.specs.declared.nodes.Least.{Least}
use Rattle.optimizer.specs.declared.nodes.OpenNodes.{OpenNodes}
use Rattle.optimizer.specs.Nodes.{least_from, least_of}
use Rattle.optimizer.specs.Inner.{node_at, open_nodes, least_open, Weighed, IsLeast}
use Rattle.optimizer.proofs.Space.{in-space, length-nodes, nodes-at}

-- the first i products added up, each at most 1,000 × 2³²
pub record Summed (ws xs : List ℕ) (sum i : ℕ) : Type 0 where
  pub upto : i ≤ length xs
  pub small : sum ≤ i * 4294967296000
  pub is : sum + cost (drop i ws) (drop i xs) ≡ cost ws xs

-- as many periods as there are valid tasks
pub weighed : (ts : List Task) → AllValid ts → length ts ≤ max_tasks → {xs : List ℕ} → length xs ≡ length ts → Weighed (weights ts) xs
weighed ts v few e = record {
  few = omega arith;
  sized = e ∙ sym (length-map ts (λ t. t.weight));
  light = light ts v;
}

-- the weights of open nodes, and node k
abbrev pub weights_of : OpenNodes → List ℕ
weights_of o = o.weights.items

abbrev pub node_of : OpenNodes → ℕ → List ℕ
node_of o k = node_at o.work.now (length (weights_of o)) k

module _ (o : OpenNodes) where
  pub listed-long : length (open_nodes o) ≡ o.count
  listed-long = length-nodes o.count (length (weights_of o)) o.work.now

  pub listed_in : o.count * length (weights_of o) ≤ length o.work.now
  listed_in = omega (arith, mul-le-mul_right (length (weights_of o)) o.within, o.fits)

  -- a stretch of the room lies in the work space; an open node has as many periods as there are weights, and its cost fits
  module _ {k : ℕ} where
    pub stretch_in : k < o.room → k * length (weights_of o) + length (weights_of o) ≤ length o.work.now
    stretch_in h = in-space (length (weights_of o)) h o.fits

  -- the best of the first k nodes
  pub record Best (best : Least) (k : ℕ) : Type 0 where
    pub below : best.node < k
    pub upto : k ≤ o.count
    pub costs : best.cost ≡ cost (weights_of o) (node_of o best.node)
    pub is : least_from (weights_of o) (node_of o best.node) (drop k (open_nodes o)) ≡ least_open o

first : (ws : List ℕ) (ps : List (List ℕ)) → 1 ≤ length ps → least_from ws (get_or ps 0 []) (drop 1 ps) ≡ least_of ws ps
unfolding least_of
first ws [] h = absurd (omega arith)
first ws (p ∷ ps) h = refl

module _ {o : OpenNodes} where
  pub best-first : 1 ≤ o.count → {c : ℕ} → c ≡ cost (weights_of o) (node_of o 0) → Best o (record { node = 0; cost = c }) 1
  best-first h ec = record {
    below = omega arith;
    upto = h;
    costs = ec;
    is = rw (← nodes-at o.count (length (weights_of o)) o.work.now 0 h) (first (weights_of o) (open_nodes o) (omega (arith, listed-long o)));
  }

  -- node k, of the cost c, against the best
  module _ {best : Least} {k : ℕ} (b : Best o best k) where
    module _ (h : k < o.count) {c : ℕ} (ec : c ≡ cost (weights_of o) (node_of o k)) {t : Bool} (e : t ≡ by_cost c best.cost (node_of o k) (node_of o best.node)) where
      next : least_from (weights_of o) (cond t (node_of o k) (node_of o best.node)) (drop (k + 1) (open_nodes o)) ≡ least_open o
      next =
          let l : t ≡ less (weights_of o) (node_of o k) (node_of o best.node) = rw (ec, b.costs) at e in
          let d = drop-cons (open_nodes o) k [] (omega (arith, listed-long o)) in
          rw (l, add-one k) (rw (d, nodes-at o.count (length (weights_of o)) o.work.now k h) at b.is)

      pub better : t ≡ true → Best o (record { node = k; cost = c }) (k + 1)
      better y = record { below = omega arith; upto = omega arith; costs = ec; is = rw y at next }

      pub no-better : t ≡ false → Best o best (k + 1)
      no-better y = record { below = omega (arith, b.below); upto = omega arith; costs = b.costs; is = rw y at next }

    pub best-all : o.count ≤ k → IsLeast o best
    best-all h =
        let e = rw (drop_of_length-le (open_nodes o) {i = k} (omega (arith, listed-long o))) at b.is in
        record { open_node = omega (arith, b.below, b.upto); least = e; costs = b.costs ∙ ap (cost (weights_of o)) e }
