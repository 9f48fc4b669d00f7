-- What the join program prints and writes for its files' bytes.
pub mod Printed
