-- The plan file (docs/FORMAT.md): layout, tasks and their limits, names, refusals, the canonical form, and what the
-- calls promise.
pub mod Lists
pub mod Faults
pub mod Errors
pub mod Words
pub mod Layout
pub mod Tasks
pub mod TaskSets
pub mod Names
pub mod Files
pub mod Canonical
pub mod Promises
pub mod Inner
