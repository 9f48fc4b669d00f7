-- Laws of the definitions in the shape that the code asks for.
pub mod Plans
pub mod Writes
pub mod Running
pub mod Totals
pub mod Firsts
pub mod Calls
pub mod CallDemands
pub mod TakenSteps
