-- Laws of the definitions in the shape that the code asks for.
pub mod ByRow
pub mod Tests
pub mod Meetings
pub mod Formulas
pub mod Relevances
