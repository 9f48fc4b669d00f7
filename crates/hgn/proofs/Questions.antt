-- The first no of a list of questions, and demand 1.
pub mod FirstNo
pub mod Lent
pub mod Numbers
pub mod Order
pub mod Answers
