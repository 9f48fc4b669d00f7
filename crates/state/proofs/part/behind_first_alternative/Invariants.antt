-- No row before row `i` is an 8. Assumes nothing.
use mathlib.Core.Path.{◌≡◌}
use lib.ListN.{drop}
use Rattle.hgn.specs.Lists.{drop_until}
use Rattle.hgn.specs.Rows.{has}
use Rattle.hgn.specs.Tag.{alternative}
use Rattle.sheet_index.specs.Index.{rows_in}
use Rattle.state.proofs.part.behind_first_alternative.Given as goal

abbrev pub invariant-loop-i : goal.invariant-loop-i
invariant-loop-i l = drop_until (has alternative) (rows_in l.node) ≡ drop_until (has alternative) (drop l.i (rows_in l.node))
