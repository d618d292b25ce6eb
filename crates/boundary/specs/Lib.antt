-- The maximal unschedulable assignment and the lowering of a node (docs/FORMAT.md, "What is looked for"), and what the
-- functions that make them promise.
pub mod Mua
pub mod Lowering
pub mod Misses
pub mod Raising
pub mod Inner
