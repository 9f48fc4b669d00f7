-- Every literal before the rows that are left holds. Assumes nothing.
use mathlib.Core.Path.{◌≡◌}
use Rattle.sheet_index.specs.Index.{rows_in, rows_left}
use Rattle.state.proofs.ByRow.{told_in}
use Rattle.state.proofs.literals.test_literals.Given as goal

abbrev pub invariant-loop-tag : goal.invariant-loop-tag
invariant-loop-tag l =
    told_in l.atoms l.signs.positive l.signs.negative (rows_in l.rows) ≡ told_in l.atoms l.signs.positive l.signs.negative (rows_left l.tag-iterator)
