-- Two columns that are cut alike have the rows from there on. Assumes nothing.
use Rattle.sheet_index.specs.Index.{rows_in}
use Rattle.sheet_index.proofs.Columns.{zip_cut}
use Rattle.sheet_index.proofs.rows.Rows.skip.Goals as goal

pub returns : goal.returns
unfolding rows_in
returns c = zip_cut c.args.count c.args.self.tags.now c.args.self.values.now
