-- What the tables of only achievers and only methods say, and what the functions keep of the list of needed moves.
pub mod Effects
pub mod OnlyAchieved
pub mod OnlyMethods
pub mod NeededMoves
pub mod Wants
pub mod Brings
