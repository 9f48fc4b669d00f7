-- The nodes passed so far are the first of the walk. Assumes nothing.
use Prim.Native.Nat.{◌≤◌, ◌-◌}
use mathlib.Core.List.{List}
use lib.ListN.{length}
use Rattle.hgn.specs.Rows.{most_rows}
use Rattle.sheet_index.specs.Tables.{Bounds, Walk}
use Rattle.sheet_index.proofs.NodeWalks.{Passed}
use Rattle.sheet_index.proofs.operators.nodes_between.Given as goal

abbrev pub invariant-loop-row : goal.invariant-loop-row
invariant-loop-row l =
    (bs : List Bounds) × Walk l.tables l.stop l.initial.row bs × (length bs ≤ most_rows) × Passed l.tables l.stop bs l.count l.last l.row

abbrev pub decreases-loop-row : goal.decreases-loop-row
decreases-loop-row l = l.stop - l.row
