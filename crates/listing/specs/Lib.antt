-- The listing of a plan.
pub mod Text
pub mod Inner
pub mod Promises
