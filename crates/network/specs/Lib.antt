-- The waiting goals as the code keeps them, how often each is listed after goals that still wait, and what becomes of both.
pub mod Entries
pub mod Entering
pub mod Pending
pub mod Reaching
pub mod Goals
