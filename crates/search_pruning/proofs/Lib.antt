-- Laws of the rules, in the shape that the code asks for.
pub mod Reading
pub mod Asked
pub mod Lower
pub mod Swaps
