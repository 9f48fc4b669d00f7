-- A new iterator has all the rows to give. Assumes nothing.
use Rattle.sheet_index.specs.Index.{rows_in, rows_left}
use Rattle.sheet_index.proofs.rows.Rows.iter.Goals as goal

pub returns : goal.returns
unfolding rows_in rows_left
returns c = cc
