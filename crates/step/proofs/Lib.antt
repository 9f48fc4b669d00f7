-- Laws of the definitions in the shape that the code asks for.
pub mod Changes
pub mod Bodies
pub mod Actions
pub mod Decided
pub mod Taken
pub mod TakenSteps
