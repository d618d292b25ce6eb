-- Laws of the boundary between unschedulable and schedulable assignments, by subject.
pub mod Maximal  -- maximal unschedulable assignments
mod OnePeriod  -- deadlines as one period changes
mod Beginning  -- where a climb may begin
mod Missing  -- the last period that misses
mod Raising  -- the raising of a node
pub mod Lowered  -- the lowering of a node
