-- Rows of the shop sheet are a span of it. Assumes nothing.
use mathlib.Core.Path.{ap₂}
use mathlib.Core.List.{zip_with}
use Rattle.hgn.specs.Rows.{row}
use Rattle.sheet_index.specs.Index.{tags_of, values_of, span_rows, rows_in}
use Rattle.sheet_index.proofs.rows.Rows.of_shop.Goals as goal

pub returns : goal.returns
unfolding rows_in span_rows tags_of values_of
returns c =
    let e = c.layout_of.ensures.0 in
    record { rows_are = λ order. ap₂ (zip_with row) (rw e at c.of_sheet.ensures.tags) (rw e at c.of_sheet.ensures.values) }
