-- What the definitions of `specs/` imply, from the tests up to the demands. `Demands` gathers it.
pub mod Logic
pub mod Questions
pub mod Sheets
pub mod Run
pub mod Network
pub mod Listing
pub mod Join
pub mod Search
pub mod Cases
pub mod Demands
