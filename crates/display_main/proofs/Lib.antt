-- Laws of the definitions in the shape that the code asks for.
pub mod Checks
pub mod Goings
pub mod LineTexts
pub mod AtomLines
pub mod GoalLines
pub mod Turns
pub mod ShownTexts
