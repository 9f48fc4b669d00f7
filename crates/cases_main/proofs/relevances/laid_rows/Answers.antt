-- The tags and the values are those of the room's rows (`as_columns`). Assumes nothing.
use Rattle.sheet_index.specs.Index.{rows_in}
use Rattle.cases_main.proofs.Pairs.{as_columns}
use Rattle.cases_main.proofs.relevances.laid_rows.Goals as goal

pub returns : goal.returns
unfolding rows_in
returns c = as_columns c.args.rows c.args.room.now
