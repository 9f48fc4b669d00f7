-- The waiting list, and 000's order on it.
pub mod Waiting
pub mod Places
pub mod Names
pub mod Rooted
pub mod Above
pub mod Reached
pub mod Precedes
pub mod Formed
