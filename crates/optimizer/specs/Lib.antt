-- The step rule of CHEAPEST (docs/FORMAT.md, "What is looked for"), and what its calls promise.
pub mod Nodes
pub mod Rule
pub mod Search
pub mod Answers
pub mod Claims
pub mod Promises
pub mod Space
pub mod Inner
