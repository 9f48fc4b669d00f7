-- The literals of the rows that are left are still to be set. Assumes nothing.
use mathlib.Core.Path.{◌≡◌}
use lib.ListN.{length}
use Rattle.sheet_index.specs.Index.{rows_in, rows_left}
use Rattle.state.proofs.ByRow.{set_in}
use Rattle.state.proofs.atoms.set_each.Given as goal

abbrev pub invariant-loop-tag : goal.invariant-loop-tag
invariant-loop-tag l =
    (set_in l.signs.positive l.signs.negative l.initial.atoms (rows_in l.rows) ≡ set_in l.signs.positive l.signs.negative l.atoms (rows_left l.tag-iterator))
    × (length l.atoms ≡ length l.initial.atoms)
