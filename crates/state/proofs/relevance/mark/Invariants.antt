-- The rows that are left are still to leave their marks. Assumes nothing.
use Rattle.sheet_index.specs.Index.{rows_in, rows_left}
use Rattle.state.proofs.Relevances.{Marking}
use Rattle.state.proofs.relevance.mark.Given as goal

abbrev pub invariant-loop-tag : goal.invariant-loop-tag
invariant-loop-tag l = Marking (rows_in l.wanted) l.initial.positive l.initial.negative l.positive l.negative (rows_left l.tag-iterator)
