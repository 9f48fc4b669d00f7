-- That stepping shows the replay.
pub mod Steppings
