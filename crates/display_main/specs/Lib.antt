-- What the display program prints, what its code puts into a text, and how much of it went out.
pub mod Moments
pub mod Puts
pub mod Shown
