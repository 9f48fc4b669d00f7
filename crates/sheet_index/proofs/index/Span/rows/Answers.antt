-- What the three calls ensure. Assumes nothing.
use mathlib.Core.Path.{ap₂}
use mathlib.Core.List.{zip_with}
use Rattle.hgn.specs.Rows.{row}
use Rattle.sheet_index.specs.Index.{tags_of, values_of, span_rows, rows_in}
use Rattle.sheet_index.proofs.index.Span.rows.Goals as goal

pub returns-clause-tags : goal.returns-clause-tags
unfolding tags_of
returns-clause-tags c = cc

pub returns-clause-values : goal.returns-clause-values
unfolding values_of
returns-clause-values c = cc

pub returns-clause-rows : goal.returns-clause-rows
unfolding span_rows rows_in
returns-clause-rows c = ap₂ (zip_with row) (returns-clause-tags c) (returns-clause-values c)
