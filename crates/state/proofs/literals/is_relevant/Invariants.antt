-- The effects are relevant exactly if they are by what was met so far and the rows that are left (`relevant_from`). Assumes nothing.
use mathlib.Core.Path.{◌≡◌}
use Rattle.hgn.specs.Meaning.{literals, node_of}
use Rattle.hgn.specs.State.{relevant}
use Rattle.sheet_index.specs.Index.{rows_in, rows_left}
use Rattle.state.proofs.Formulas.{relevant_from}
use Rattle.state.proofs.literals.is_relevant.Given as goal

abbrev pub invariant-loop-tag : goal.invariant-loop-tag
invariant-loop-tag l =
    relevant (literals l.signs.positive l.signs.negative (rows_in l.effects)) (node_of (rows_in l.node)).formula
    ≡ relevant_from (literals l.signs.positive l.signs.negative (rows_in l.effects)) l.inside l.helped (rows_left l.tag-iterator)
