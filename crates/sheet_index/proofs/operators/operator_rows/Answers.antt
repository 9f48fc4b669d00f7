-- The operator stands from its start up to the next (`operator_read`). Assumes nothing.
use native.Mathlib.Omega.{arith}
use Rattle.sheet_index.proofs.OperatorRows.{operator_in_table, operator_read}
use Rattle.sheet_index.proofs.operators.operator_rows.Goals as goal

pub bounds-tables-at : goal.bounds-tables-at
bounds-tables-at c = let p = c.requires in omega (arith, operator_in_table p.2 _ p.3)

pub bounds-tables-at-2 : goal.bounds-tables-at-2
bounds-tables-at-2 c = let p = c.requires in omega (arith, operator_in_table p.2 _ p.3)

pub returns : goal.returns
returns c shop order ix h = rw c.of_shop.ensures (operator_read ix _ h)
