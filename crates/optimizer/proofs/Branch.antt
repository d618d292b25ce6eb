-- The children of a node listed after the open nodes, one task at a time.
use mathlib.Core.Path.{◌≡◌, sym, ◌∙◌}
use mathlib.Core.Bool.{Bool, true, false, false≢true}
use mathlib.Core.List.{List, [], ◌∷◌, ◌++◌, append_assoc, append-nil}
use Prim.Native.Nat.{ℕ, suc, ◌+◌, ◌-◌, ◌≤◌, ◌<◌}
use native.Mathlib.Numerals.{add-one}
use native.Mathlib.Omega.{arith}
use lib.Dec.{leb}
use lib.ListN.{length, get_or, set, length-append}
use borrow.Author.Tests.{lt-ltb, le-ltb, le-leb}
use Rattle.std.proofs.lemmas.Bool.{lt-leb}
use Rattle.plan.specs.declared.tasks.Task.{Task}
use Rattle.plan.specs.Tasks.{task_at, period_maxs}
use Rattle.response.proofs.Ranges.{max-at}
use Rattle.optimizer.specs.declared.nodes.OpenNodes.{OpenNodes}
use Rattle.optimizer.specs.Nodes.{kept}
use Rattle.optimizer.specs.Search.{child, children_from}
use Rattle.optimizer.specs.Inner.{open_nodes, SameSpace, Dropped, expanded, Lists}
use Rattle.optimizer.proofs.Scans.{listed-long}

-- the children from task i on, with and without its own
module _ (left : ℕ) (maxs node u : List ℕ) (i : ℕ) where
  child-more : get_or u i 0 < get_or maxs i 0
      → children_from (suc left) maxs node u i ≡ child node u i ∷ children_from left maxs node u (i + 1)
  child-more l = rw (lt-ltb (get_or u i 0) (get_or maxs i 0) l, children_from) (rw (add-one i))

  child-none : get_or maxs i 0 ≤ get_or u i 0 → children_from (suc left) maxs node u i ≡ children_from left maxs node u (i + 1)
  child-none l = rw (le-ltb (get_or u i 0) (get_or maxs i 0) l, children_from) (rw (add-one i))

module _ (ts : List Task) (old : OpenNodes) (node u : List ℕ) where
  -- the kept children of the tasks from i on
  abbrev to_come : ℕ → List (List ℕ)
  to_come i = kept (children_from (length node - i) (period_maxs ts) node u i) (open_nodes old)

  pub record Grown (new : OpenNodes) (i : ℕ) : Type 0 where
    pub same : SameSpace old new
    pub upto : i ≤ length node
    pub is : open_nodes new ++ to_come i ≡ expanded (period_maxs ts) node u (open_nodes old)

module _ {ts : List Task} {old : OpenNodes} {node u : List ℕ} where
  module _ {new : OpenNodes} {i : ℕ} (g : Grown ts old node u new i) where
    total : length (expanded (period_maxs ts) node u (open_nodes old)) ≡ new.count + length (to_come ts old node u i)
    total = rw (← g.is, length-append, listed-long new)

    pub grown-all : length node ≤ i → Lists (period_maxs ts) node u old new true
    grown-all h =
        let z : length node - i ≡ 0 = omega arith in
        let t : length (expanded (period_maxs ts) node u (open_nodes old)) ≡ new.count = omega (arith, rw z at total) in
        record {
          room = rw t (sym (le-leb new.count old.room (rw (← g.same.room) new.within)));
          listed = λ e. sym (append-nil (open_nodes new)) ∙ rw z at g.is;
        }

    module _ (h : i < length node) {m : ℕ} (em : m ≡ (task_at ts i).period_max) where
      fuel : length node - i ≡ suc (length node - (i + 1))
      fuel = omega arith

      max-is : m ≡ get_or (period_maxs ts) i 0
      max-is = em ∙ sym (max-at ts i)

      past : to_come ts old node u i ≡ to_come ts old node u (i + 1) → Grown ts old node u new (i + 1)
      past e = record { same = g.same; upto = omega arith; is = rw e at g.is }

      pub grown-end : m ≤ get_or u i 0 → Grown ts old node u new (i + 1)
      grown-end l = past (rw (fuel, child-none (length node - (i + 1)) (period_maxs ts) node u i (omega (arith, max-is))))

      module _ {marks : List Bool} (d : Dropped old node u marks) (l : get_or u i 0 < m) where
        with-own : children_from (length node - i) (period_maxs ts) node u i
            ≡ child node u i ∷ children_from (length node - (i + 1)) (period_maxs ts) node u (i + 1)
        with-own = rw fuel (child-more (length node - (i + 1)) (period_maxs ts) node u i (omega (arith, max-is)))

        pub grown-dropped : get_or marks i false ≡ true → Grown ts old node u new (i + 1)
        grown-dropped n = past (rw (with-own, ← d.marked i h, n))

        module _ (n : get_or marks i false ≡ false) where
          one : to_come ts old node u i ≡ child node u i ∷ to_come ts old node u (i + 1)
          one = rw (with-own, ← d.marked i h, n)

          pub grown-full : new.count ≡ new.room → Lists (period_maxs ts) node u old new false
          grown-full e =
              let t : leb (length (expanded (period_maxs ts) node u (open_nodes old))) old.room ≡ false =
              lt-leb _ old.room (omega (arith, rw one at total, g.same.room)) in
              record { room = sym t; listed = λ f. absurd (false≢true f) }

          pub grown-more : {then : OpenNodes} → SameSpace new then
              → open_nodes then ≡ open_nodes new ++ (set node i (get_or u i 0 + 1) ∷ []) → Grown ts old node u then (i + 1)
          grown-more s f = record {
            same = record {
              same_reference = s.same_reference ∙ g.same.same_reference;
              weights = s.weights ∙ g.same.weights;
              room = s.room ∙ g.same.room;
            };
            upto = omega arith;
            is = rw (f, append_assoc, add-one (get_or u i 0)) (rw one at g.is);
          }
