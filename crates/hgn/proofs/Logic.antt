-- The tests of `specs/` and what they decide.
pub mod Ranges
pub mod Relevance
pub mod Tests
