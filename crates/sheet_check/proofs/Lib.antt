-- Laws of the definitions in the shape that the code asks for.
pub mod Counts
pub mod Lookup
pub mod Orders
pub mod Puts
pub mod GroupCounts
pub mod Scans
pub mod Checks
pub mod CallDemands
