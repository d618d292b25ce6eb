-- Response-time analysis at given periods (docs/FORMAT.md, "What is looked for"), and what the call promises.
pub mod Analysis
pub mod ExactRelease
pub mod Assignments
pub mod Claims
pub mod Errors
pub mod Promises
pub mod Inner
