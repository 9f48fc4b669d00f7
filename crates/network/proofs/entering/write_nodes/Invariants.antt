-- The nodes passed are written (`Writing`). Assumes nothing.
use mathlib.Core.Path.{◌≡◌}
use mathlib.Core.List.{List}
use lib.ListN.{length}
use Rattle.sheet_index.specs.Tables.{Bounds, Walk}
use Rattle.network.proofs.Writing.{Writing}
use Rattle.network.proofs.entering.write_nodes.Given as goal

abbrev pub invariant-loop-number : goal.invariant-loop-number
invariant-loop-number l =
    (bs : List Bounds) × Walk l.tables l.network.end.0 l.initial.row bs × (length l.room ≡ length bs)
    × Writing l.shop l.order l.tables l.network.source l.network.end.0 bs l.room l.number l.row
