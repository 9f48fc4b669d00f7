-- Whether a node is helped is decided among the nodes from `row` on. Assumes nothing.
use Prim.Native.Nat.{◌-◌}
use Rattle.search_bound.specs.Tables.{bound_relevant}
use Rattle.search_bound.proofs.OnlyMethods.{Looked}
use Rattle.search_bound.proofs.relevance.has_node_for.Given as goal

abbrev pub invariant-loop-row : goal.invariant-loop-row
invariant-loop-row l = Looked (bound_relevant l.shop l.order l.effects) l.tables l.method.end.0 l.initial.row l.row

abbrev pub decreases-loop-row : goal.decreases-loop-row
decreases-loop-row l = l.method.end.0 - l.row
