-- Before each row the rest of the rows is left to put. Assumes nothing.
use lib.ListN.{drop}
use Rattle.hgn.specs.Rows.{rows_of}
use Rattle.sheet_join.proofs.Putting.{Left}
use Rattle.sheet_join.proofs.rows.put_first.Given as goal

abbrev pub invariant-loop-i : goal.invariant-loop-i
invariant-loop-i l =
    let rows = rows_of l.from.sizes l.from.rows l.first in
    Left l.into.sizes l.into.rows 0 rows l.initial.room l.i (drop l.i rows) l.room
