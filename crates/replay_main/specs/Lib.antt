-- What the replay program prints for its files' bytes.
pub mod Printed
