-- Each effect's atom is wanted by a row before, or by those that are left (`Seen`). Assumes nothing.
use Rattle.sheet_index.specs.Index.{rows_in, rows_left}
use Rattle.state.proofs.Relevances.{Seen}
use Rattle.state.proofs.relevance.two_meet.Given as goal

abbrev pub invariant-loop-tag : goal.invariant-loop-tag
invariant-loop-tag l =
    Seen (rows_in l.wanted) l.first.atom.0 l.first_positive l.first_negative (rows_left l.tag-iterator)
    × Seen (rows_in l.wanted) l.second.atom.0 l.second_positive l.second_negative (rows_left l.tag-iterator)
