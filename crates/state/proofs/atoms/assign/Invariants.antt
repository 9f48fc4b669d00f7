-- The values of the rows that are left are still to be assigned. Assumes nothing.
use mathlib.Core.Path.{◌≡◌}
use lib.ListN.{length}
use Rattle.sheet_index.specs.Index.{rows_in, rows_left}
use Rattle.state.proofs.ByRow.{assigned_in}
use Rattle.state.proofs.atoms.assign.Given as goal

abbrev pub invariant-loop-own : goal.invariant-loop-own
invariant-loop-own l =
    (assigned_in l.to l.tag l.initial.atoms (rows_in l.rows) ≡ assigned_in l.to l.tag l.atoms (rows_left l.own-iterator)) × (length l.atoms ≡ length l.initial.atoms)
