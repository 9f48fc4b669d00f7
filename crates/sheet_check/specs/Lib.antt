-- How the code's answers stand for the definitions of `hgn`, and what is promised of them.
pub mod PartCounts
pub mod Scanned
pub mod Sizes
pub mod Puts
pub mod Answers
pub mod Demands
