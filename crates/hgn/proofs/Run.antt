-- One step, a run, Definition 1, demand 2 of the replay, and the atom that it names.
pub mod Moves
pub mod Steps
pub mod Runs
pub mod Limits
pub mod Effects
pub mod Relevance
pub mod Costs
pub mod Derivation
pub mod Replay
pub mod Stopped
pub mod Unmet
