-- What the call promises, and what its functions share.
pub mod Joinings
pub mod Demands
