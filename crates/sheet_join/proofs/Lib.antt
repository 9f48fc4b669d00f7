-- Laws of the definitions in the shape that the code asks for.
pub mod Putting
pub mod Raising
pub mod Orders
pub mod Goals
pub mod Counted
pub mod Writing
pub mod Calls
pub mod CallDemands
