-- What effects do to wanted literals and to a state, and what a test of literals tells.
pub mod Literals
pub mod Effects
pub mod Relevances
pub mod Tests
