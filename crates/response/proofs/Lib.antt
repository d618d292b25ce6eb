-- Laws of response-time analysis and of period assignments, by subject.
pub mod Ceiling  -- rounding up
pub mod Demand  -- what a task and those above it demand by a time
pub mod Exactness  -- the climb, and the least time that covers
pub mod Found  -- a time that is looked for: there is one, or none
pub mod Slack  -- slack, and that the climb may be left past the deadline
mod Idle  -- what the tasks above leave of the processor
pub mod Sustainable  -- meeting deadlines, and raising periods
pub mod Early  -- the time test as examples compute it
pub mod Missed  -- the first task that misses its deadline
pub mod ExactRelease  -- plans without jitter
pub mod Answers  -- the list of slacks
pub mod Limits  -- what the time test asks, as a period is set; climbs, and what they find
pub mod Dominance  -- assignments compared period by period, and list equality
pub mod Order  -- assignments by cost
pub mod Bounds  -- assignments within the tasks' bounds
pub mod Ranges  -- valid tasks at periods within their bounds
mod Refusals  -- TIMES, from its rules to its answer
pub mod Examples  -- the published examples
