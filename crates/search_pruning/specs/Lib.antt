-- What the code's moves and tests mean.
pub mod Tests
