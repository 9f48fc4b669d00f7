-- Laws of the definitions in the shape that the code asks for.
pub mod LineTexts
pub mod Pieces
pub mod Ahead
pub mod Lists
pub mod FirstAhead
pub mod Judging
pub mod TurnLaws
pub mod TurnsSoFar
