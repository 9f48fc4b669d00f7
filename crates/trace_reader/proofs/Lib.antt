-- The steps of a trace by their rows.
pub mod RowLaws
