-- Laws of the definitions in the shape that the code asks for.
pub mod Answering
