-- The depth that is typed, and what the search program prints and writes.
pub mod Depths
pub mod Printed
