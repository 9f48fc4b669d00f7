-- Laws of the listing in the shape that the code asks for.
pub mod Aboves
pub mod Telling
pub mod Onward
