-- Laws of the search and of its call, in the shape that the code asks for.
pub mod Trying
pub mod Exploring
pub mod Depths
pub mod Traces
pub mod Calls
pub mod CallDemands
