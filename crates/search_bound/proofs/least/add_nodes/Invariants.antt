-- The nodes from a row on are left; what was added so far is needed. Assumes nothing.
use Prim.Native.Nat.{◌-◌}
use Rattle.hgn.specs.Run.{use_method}
use Rattle.hgn.specs.Replay.{rules_of}
use Rattle.search_bound.specs.NeededMoves.{OnwardFrom}
use Rattle.search_bound.proofs.Brings.{NodesLeft}
use Rattle.search_bound.proofs.least.add_nodes.Given as goal

abbrev pub invariant-loop-row : goal.invariant-loop-row
invariant-loop-row l =
    NodesLeft l.shop l.order l.tables (l.operator - l.actions) l.rows.end.0 l.row
    × OnwardFrom (rules_of l.shop) l.atoms (use_method (l.operator - l.actions)) l.initial.moves l.moves

abbrev pub decreases-loop-row : goal.decreases-loop-row
decreases-loop-row l = l.rows.end.0 - l.row
