-- What a step gives to the listing.
pub mod Lines
