-- Predecessors: the list of pairs, chains, and what FEEDERS promises.
pub mod Pairs
pub mod Chains
pub mod Errors
pub mod Inner
pub mod Promises
