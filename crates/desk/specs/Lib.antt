-- The desk program's answer block, and what its call promises.
pub mod Block
pub mod Promises
pub mod Inner
