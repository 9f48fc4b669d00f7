-- The effects are those of the rows from row `i` on. Assumes nothing.
use mathlib.Core.Path.{◌≡◌}
use lib.ListN.{drop}
use Rattle.sheet_index.specs.Index.{rows_in}
use Rattle.state.specs.Relevances.{effects_in}
use Rattle.state.proofs.relevance.next_effect.Given as goal

abbrev pub invariant-loop-i : goal.invariant-loop-i
invariant-loop-i l = effects_in l.signs (rows_in l.effects) ≡ effects_in l.signs (drop l.i (rows_in l.effects))
