-- Laws of a state's bytes and of the words of an answer, and the promises of the six calls.
pub mod Bytes
pub mod Leaving
pub mod CallDemands
