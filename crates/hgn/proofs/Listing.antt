-- What waiting goals carry, and the lines of a listing.
pub mod Trees
pub mod Origins
pub mod Parents
pub mod Counts
pub mod Truths
pub mod Lines
