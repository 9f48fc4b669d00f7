-- Laws of the definitions in the shape that the code asks for.
pub mod Gaps
pub mod Entered
pub mod Afters
pub mod Counts
pub mod Pending
pub mod Reaching
pub mod PendingCounts
pub mod Lowering
pub mod Writing
pub mod WaitingGoals
pub mod Moved
