-- How the code's moves, failures and steps stand for the definitions' own.
pub mod Moves
pub mod Failures
pub mod Steps
pub mod Deciding
pub mod Taking
