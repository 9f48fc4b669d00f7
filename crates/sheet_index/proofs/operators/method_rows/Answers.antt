-- The method's rows are read off the table (`method_read`). Assumes nothing.
use native.Mathlib.Omega.{arith}
use Rattle.sheet_index.proofs.OperatorRows.{ends_in_table, from_few, method_read}
use Rattle.sheet_index.proofs.operators.method_rows.Goals as goal

pub bounds-tables-at : goal.bounds-tables-at
bounds-tables-at c = let p = c.requires in omega (arith, ends_in_table p.1 _ p.2 _ c.word-actions.ensures)

pub bounds-tables-at-2 : goal.bounds-tables-at-2
bounds-tables-at-2 c = let p = c.requires in ends_in_table p.1 _ p.2 _ c.word-actions.ensures

pub overflow_cast-result : goal.overflow_cast-result
overflow_cast-result c = let p = c.requires in omega (arith, from_few p.1 _ p.2 _ c.word-actions.ensures)

pub offset_bounds-tables-from : goal.offset_bounds-tables-from
offset_bounds-tables-from c = let p = c.requires in omega (arith, from_few p.1 _ p.2 _ c.word-actions.ensures)

pub bounds-tables-from : goal.bounds-tables-from
bounds-tables-from c =
    let p = c.requires in
    let w = c.word-actions.ensures in
    omega (arith, from_few p.1 _ p.2 _ w, ends_in_table p.1 _ p.2 _ w)

pub returns : goal.returns
returns c order ix = method_read ix _ c.requires.2 _ c.word-actions.ensures
