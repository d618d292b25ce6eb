-- Laws of predecessors, by subject.
pub mod Numbers  -- refusals as numbers
mod Reading  -- from the bytes of a list to its pairs
mod Bits  -- a mask's bits, one by one and counted
mod Naming  -- the masks of the tasks that pairs name
mod Joining  -- masks joined through a task, one by one
mod Closure  -- from the tasks that pairs name to chains
mod Answering  -- from FEEDERS's rules and masks to its answer
