-- Before each row of the second order, what the rest of its rows becomes is left to put. Assumes nothing.
use mathlib.Core.List.{List, flat_map}
use Prim.Native.Nat.{ℕ, ◌+◌, ◌≤◌}
use lib.ListN.{length, drop}
use Rattle.hgn.specs.Rows.{Row}
use Rattle.hgn.specs.JoinSheet.{raised_row}
use Rattle.hgn.specs.Order.{order_rows}
use Rattle.sheet_join.proofs.Putting.{Left}
use Rattle.sheet_join.proofs.rows.put_second.Given as goal

-- What the rows of the second order from row `i` on become.
abbrev pub raised : ℕ → List ℕ → ℕ → List Row
raised before second i = flat_map (raised_row before) (drop i (order_rows second))

abbrev pub invariant-loop-i : goal.invariant-loop-i
invariant-loop-i l =
    (l.next + length (raised l.joining.before l.second l.i) ≤ l.into.rows)
    × Left l.into.sizes l.into.rows l.at (raised l.joining.before l.second l.initial.i) l.initial.room l.next (raised l.joining.before l.second l.i) l.room
