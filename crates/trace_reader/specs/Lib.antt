-- What stands at a row of a trace.
pub mod TraceRows
