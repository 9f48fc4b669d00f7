-- Each test of `Rules` leaves out no step of the first of the shortest traces, and so the search that leaves them out finds it: `Pruned`.
-- `Loops` has that search in the shape that code asks for. `Needed` has the ways in which a move is needed, and `LeastSteps` the steps that
-- such moves take at least.
pub mod TooFew
pub mod Lower
pub mod NoEffect
pub mod Places
pub mod Swaps
pub mod Pruned
pub mod Loops
pub mod Comes
pub mod Needed
pub mod LeastSteps
