-- Laws of the listing, by subject.
mod Decimal  -- a number's digits
pub mod TaskLines  -- the lines of the tasks
mod Conclusions  -- from what READ and CHEAPEST return to the text
pub mod Examples  -- the published listing
