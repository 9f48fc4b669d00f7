-- The part is made where the sheet has the rows, by the definition's three tests. Assumes nothing.
use mathlib.Core.Path.{sym}
use Rattle.sheet_index.specs.Index.{span}
use Rattle.sheet_index.proofs.Spans.{column_inside, column_turned, column_past, column_short}
use Rattle.sheet_index.proofs.rows.column_part.Goals as goal
use Rattle.sheet_index.proofs.rows.column_part.Goals.{else-from-to-via-then-from-to+then-to-layout+else-layout-words, else-from-to-via-then-from-to+else-to-layout, else-from-to-via-else-from-to}

pub returns-then-layout-words : goal.returns-then-layout-words
unfolding span
returns-then-layout-words c = sym (column_inside _ _ _ _ _ c.if-from-to.true c.if-to-layout.true c.if-layout-words.true)

pub returns-else-from-to : goal.returns-else-from-to
returns-else-from-to c =
    elim c.else-from-to.branch [
      | else-from-to-via-then-from-to+then-to-layout+else-layout-words w ↦ sym (column_short _ _ _ _ _ w.if-from-to.true w.if-to-layout.true w.if-layout-words.false)
      | else-from-to-via-then-from-to+else-to-layout w ↦ sym (column_past _ _ _ _ _ w.if-from-to.true w.if-to-layout.false)
      | else-from-to-via-else-from-to w ↦ sym (column_turned _ _ _ _ _ w.if-from-to.false)
    ]
