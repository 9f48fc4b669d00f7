-- The join of two orders, as a network and as a sheet, and demand 3.
pub mod Goals
pub mod Embedding
pub mod Front
pub mod Renaming
pub mod Cut
pub mod Counted
pub mod Lines
pub mod Moments
pub mod Rule
pub mod Rows
pub mod Sheets
pub mod Groups
pub mod Call
pub mod Replays
