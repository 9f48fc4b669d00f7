-- What the tables and the list of needed moves mean, for the contracts between the functions.
pub mod Tables
pub mod NeededMoves
