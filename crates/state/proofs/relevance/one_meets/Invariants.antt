-- The effect's atom is wanted by a row before, or by those that are left (`Seen`). Assumes nothing.
use Rattle.sheet_index.specs.Index.{rows_in, rows_left}
use Rattle.state.proofs.Relevances.{Seen}
use Rattle.state.proofs.relevance.one_meets.Given as goal

abbrev pub invariant-loop-tag : goal.invariant-loop-tag
invariant-loop-tag l = Seen (rows_in l.wanted) l.effect.atom.0 l.positive l.negative (rows_left l.tag-iterator)
