-- Laws of the plan file, by subject.
pub mod Tests  -- tests as facts
pub mod Lists  -- tabulated lists, and lists stored into others
pub mod Columns  -- a number of each task
pub mod Rules  -- the first broken rule
pub mod Numbers  -- refusals as numbers
pub mod Joined  -- parts of one length, joined and stored
pub mod Bytes  -- numbers as bytes
pub mod Fields  -- name fields
pub mod NameWords  -- names compared by their words
pub mod Header  -- the rules 1 to 6
mod Gaps  -- bytes in no area
pub mod Valid  -- valid tasks
pub mod Accepted  -- accepted files
mod Versions  -- row widths, and the version that tasks need
mod Canonical  -- the canonical form of tasks and names
mod Decoding  -- tasks decoded one by one
pub mod Loading  -- the file's refusal, and loaded plans
mod OneForm  -- an accepted file and its canonical form
pub mod Writing  -- WRITE
pub mod Samples  -- the files of the examples
