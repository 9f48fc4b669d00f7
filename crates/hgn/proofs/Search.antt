-- The first of the shortest traces, and demand 2 of the search.
pub mod Best
pub mod Candidates
pub mod Pruning
pub mod Shortest
pub mod Waits
pub mod FoundTraces
pub mod Search
