-- What the C interface writes, and what is promised of it.
pub mod Words
pub mod Demands
