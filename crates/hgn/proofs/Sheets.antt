-- Which sheets pass, and what they mean.
pub mod Passed
pub mod Readback
pub mod Rules
pub mod Grammar
pub mod Trace
pub mod Written
pub mod Checked
pub mod Methods
pub mod Starts
