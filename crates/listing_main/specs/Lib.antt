-- What the listing program prints for the bytes of its files, the pieces and turns in which it makes it, and what went out.
pub mod Listed
pub mod Pieces
pub mod Turns
pub mod Answers
