-- Laws of the definitions in the shape that the code asks for.
pub mod Spans
pub mod Fills
pub mod Indexed
pub mod NodeWalks
pub mod NodeParts
pub mod Columns
pub mod Tables
pub mod OperatorRows
