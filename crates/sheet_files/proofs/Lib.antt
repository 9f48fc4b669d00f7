-- Laws of the definitions in the shape that the code asks for.
pub mod ByIndex
pub mod ReadBack
pub mod Rooms
pub mod Decimals
pub mod Texts
pub mod Answered
