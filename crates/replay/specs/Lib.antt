-- What the call promises, and how the code's answer stands for the definitions' own.
pub mod OrderTable
pub mod Answers
pub mod Demands
pub mod Running
