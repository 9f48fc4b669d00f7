-- What the parts of the case program answer.
pub mod Accepted
pub mod Names
pub mod Plain
pub mod Relevances
pub mod Rooms
