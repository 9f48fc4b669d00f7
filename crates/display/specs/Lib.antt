-- What the display promises, of a step and of a whole trace.
pub mod Forward
pub mod Stepping
