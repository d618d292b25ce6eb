-- What the inner functions promise each other.
use Rattle.std.specs.Prelude.{◌≡◌, Bool, true, false, List, [], ◌∷◌, ◌++◌, ℕ, zero, suc, ◌+◌, ◌-◌, ◌*◌, ◌≤◌, ◌<◌, eqb, leb, length, get_or, take, drop}
use Rattle.plan.specs.declared.tasks.Task.{Task}
use Rattle.plan.specs.Tasks.{max_tasks, max_weight, period_maxs, weights}
use Rattle.response.specs.Analysis.{schedulable}
use Rattle.response.specs.Assignments.{cost, dominates, within_bounds}
use Rattle.boundary.specs.declared.node.Node.{Node}
use Rattle.boundary.specs.Inner.{LowersNode}
use Rattle.optimizer.specs.Nodes.{least_of, without, dominates_some, kept, SameNodes}
use Rattle.optimizer.specs.Rule.{Rule, least, next}
use Rattle.optimizer.specs.Search.{child, children_from, start}
use Rattle.optimizer.specs.Promises.{Outcome, room_of}
use Rattle.optimizer.specs.declared.conclusion.Answer.{Answer}
use Rattle.optimizer.specs.declared.children.Drops.{Drops}
use Rattle.optimizer.specs.declared.children.Drops.TheVariants.{All, One, Nothing}
use Rattle.optimizer.specs.declared.nodes.Least.{Least}
use Rattle.optimizer.specs.declared.nodes.OpenNodes.{OpenNodes}
use Rattle.optimizer.specs.declared.round.Step.{Step}
use Rattle.optimizer.specs.declared.round.Step.TheVariants.{Answered, Listed, Full}
use Rattle.optimizer.specs.declared.round.Round.{Round}

-- "Each corner is written into its own stretch of the work space": node k of n periods, and the first count nodes
abbrev pub node_at : List ℕ → ℕ → ℕ → List ℕ
node_at work n k = take n (drop (k * n) work)

abbrev pub nodes : ℕ → ℕ → List ℕ → List (List ℕ)
nodes zero n work = []
nodes (suc count) n work = take n work ∷ nodes count n (drop n work)

-- a work space with a node written from a place on
abbrev pub put : List ℕ → ℕ → List ℕ → List ℕ
put work at node = take at work ++ (node ++ drop (at + length node) work)

-- weights and periods whose cost 64 bits hold
pub record Weighed (ws xs : List ℕ) : Type 0 where
  pub few : length xs ≤ max_tasks
  pub sized : length xs ≡ length ws
  pub light : (i : ℕ) → get_or ws i 0 ≤ max_weight

-- the open nodes, and the least of them
abbrev pub open_nodes : OpenNodes → List (List ℕ)
open_nodes o = nodes o.count (length o.weights.items) o.work.now

abbrev pub least_open : OpenNodes → List ℕ
least_open o = least_of o.weights.items (open_nodes o)

-- the work space that they are lent, their weights and their room stay
pub record SameSpace (old new : OpenNodes) : Type 0 where
  pub same_reference : new.work.ghost_name ≡ old.work.ghost_name
  pub weights : new.weights ≡ old.weights
  pub room : new.room ≡ old.room

-- a search's first open nodes, in a work space of so many numbers
pub record Starts (ts : List Task) (work : ℕ) (o : OpenNodes) : Type 0 where
  pub weights : o.weights.items ≡ weights ts
  pub room : o.room ≡ room_of ts work
  pub start : open_nodes o ≡ start ts

pub record IsLeast (o : OpenNodes) (r : Least) : Type 0 where
  pub open_node : r.node < o.count
  pub least : node_at o.work.now (length o.weights.items) r.node ≡ least_open o
  pub costs : r.cost ≡ cost o.weights.items (least_open o)

-- the least node taken off
pub record Taken (old new : OpenNodes) (r : Node) : Type 0 where
  pub least : r.periods.items ≡ least_open old
  pub costs : r.cost ≡ cost old.weights.items (least_open old)
  pub count : new.count ≡ old.count - 1
  pub rest : SameNodes (open_nodes new) (without (least_open old) (open_nodes old))

-- a node and an assignment that dominates it
pub record Above (node u : List ℕ) : Type 0 where
  pub sized : length u ≡ length node
  pub above : (i : ℕ) → get_or node i 0 ≤ get_or u i 0

abbrev pub drops : Drops → ℕ → Bool
drops All i = true
drops (One j) i = eqb i j
drops Nothing i = false

abbrev pub in_range : Drops → ℕ → Type 0
in_range All n = Unit {0}
in_range (One j) n = j < n
in_range Nothing n = Unit {0}

pub record DroppedBy (q node u : List ℕ) (d : Drops) : Type 0 where
  pub marks : (i : ℕ) → i < length node → dominates (child node u i) q ≡ drops d i
  pub is_in_range : in_range d (length node)

-- a node to expand, beside open nodes
pub record Expands (o : OpenNodes) (node u : List ℕ) : Type 0 where
  pub sized : length node ≡ length o.weights.items
  pub above : Above node u

-- which children dominate an open node
pub record Dropped (o : OpenNodes) (node u : List ℕ) (marks : List Bool) : Type 0 where
  pub marked : (i : ℕ) → i < length node
      → get_or marks i false ≡ dominates_some (child node u i) (open_nodes o)

-- the open nodes with the children that are kept
abbrev pub expanded : List ℕ → List ℕ → List ℕ → List (List ℕ) → List (List ℕ)
expanded maxs node u ps = ps ++ kept (children_from (length node) maxs node u 0) ps

-- "If listed corners and remaining children together exceed the space, stop .. Else list them.": whether they are
pub record Lists (maxs node u : List ℕ) (old new : OpenNodes) (r : Bool) : Type 0 where
  pub room : r ≡ leb (length (expanded maxs node u (open_nodes old))) old.room
  pub listed : r ≡ true → open_nodes new ≡ expanded maxs node u (open_nodes old)

-- what a round's step says, by a rule and its state, of the open nodes ps and of those that there are then
abbrev pub Goes : (R : Rule) → R.State → ℕ → List (List ℕ) → List (List ℕ) → Step → Type 0
Goes R s room ps then Answered = R.answers s (least R ps) ≡ true
Goes R s room ps then Listed =
    (R.answers s (least R ps) ≡ false) × ((length then ≤ room) × SameNodes then (next R s ps))
Goes R s room ps then Full = (R.answers s (least R ps) ≡ false) × (room < length (next R s ps))

-- a round by a rule
pub record Rounds (R : Rule) (s : R.State) (old new : OpenNodes) (r : Round) : Type 0 where
  pub node : r.node.periods.items ≡ least R (open_nodes old)
  pub costs : r.node.cost ≡ cost R.weights (least R (open_nodes old))
  pub goes : Goes R s old.room (open_nodes old) (open_nodes new) r.step

-- what a round asks: open nodes of tasks, the least of them within the bounds
pub record Ready (ts : List Task) (o : OpenNodes) : Type 0 where
  pub some : 1 ≤ o.count
  pub weights : o.weights.items ≡ weights ts
  pub bounded : within_bounds ts (least_open o) ≡ true

-- what a search asks: the two spaces of a call that passed its own rules, and schedulable longest periods
pub record Searchable (ts : List Task) (o w : List ℕ) : Type 0 where
  pub sized : length o ≡ length ts
  pub room : length ts ≤ length w
  pub top : schedulable ts (period_maxs ts) ≡ true

-- the outcome of a search: its answer, and the periods' space afterwards
pub record Ends (x : Outcome) (o' : List ℕ) (r : Answer) : Type 0 where
  pub answer : r ≡ x.answer
  pub periods : o' ≡ x.periods

-- an incumbent: periods, with their cost
pub record IsIncumbent (ts : List Task) (xs : List ℕ) (x : Node) : Type 0 where
  pub periods : x.periods.items ≡ xs
  pub costs : x.cost ≡ cost (weights ts) xs

-- the first one: the longest periods
abbrev pub IsLongest : List Task → Node → Type 0
IsLongest ts x = IsIncumbent ts (period_maxs ts) x

-- an incumbent that is to be improved by the lowering of a node
pub record Improvable (ts : List Task) (incumbent node : Node) : Type 0 where
  pub lowers : LowersNode ts node.periods.items
  pub costs : incumbent.cost ≡ cost (weights ts) incumbent.periods.items
  pub node-costs : node.cost ≡ cost (weights ts) node.periods.items
