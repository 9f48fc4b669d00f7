-- What the call promises, and what the code's own values and tests mean, for the contracts between its functions.
pub mod Lents
pub mod Trials
pub mod Founds
pub mod Demands
