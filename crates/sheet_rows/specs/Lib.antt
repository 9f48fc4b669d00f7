-- How the code's refusal, its position and its reading of a row stand for the definitions of `hgn`.
pub mod Reading
pub mod Refusals
