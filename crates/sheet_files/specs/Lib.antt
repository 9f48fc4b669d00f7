-- What a program makes of its files' bytes, and how it writes numbers.
pub mod Words
pub mod Texts
