-- Laws of the definitions in the shape that the code asks for.
pub mod Texts
pub mod Plains
pub mod Pairs
pub mod Rooms
pub mod Accepted
