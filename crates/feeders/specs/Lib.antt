-- What program feeders prints.
pub mod Text
