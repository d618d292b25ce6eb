-- Laws of the search, by subject.
pub mod Multiset  -- the open nodes as a multiset
pub mod Steps  -- the search by any rule, round by round
pub mod Alike  -- two rules that end alike
pub mod Optimal  -- why the search by a lawful rule is right
pub mod Counting  -- the assignments within the bounds, counted
pub mod Rounds  -- how many rounds there are
pub mod Branching  -- the children of a node
pub mod Improving  -- the incumbent, and that the rule is lawful
pub mod Guarantees  -- what the search by a lawful rule comes to
pub mod Running  -- the search while it runs
pub mod Settled  -- demand 3, and the incumbent
pub mod Numbers  -- refusals as numbers
mod Space  -- nodes in the work space
mod Ordering  -- assignments of one cost, as the library compares them
mod Columns  -- the weights of a plan's tasks
mod Scans  -- cost, order and the least node, one at a time
mod Drop  -- children that open nodes drop
mod Branch  -- children listed after the open nodes
mod Taking  -- the least node taken off, and how its round goes
mod Looping  -- the rounds over the work space
mod Searching  -- the rounds with their incumbent
pub mod Concluding  -- from the rules and the search to the outcome
pub mod ExactRelease  -- plans without jitter
mod Promised  -- from the outcome to what a call promises
pub mod Examples  -- the published examples
