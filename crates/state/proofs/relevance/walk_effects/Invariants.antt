-- The effects do what is told of those before, then what those of the rows that are left do (`told_from`). Assumes nothing.
use mathlib.Core.Path.{◌≡◌}
use Rattle.hgn.specs.Relevance.{relevance}
use Rattle.sheet_index.specs.Index.{rows_in, rows_left}
use Rattle.state.specs.Relevances.{relevance_of, wanted_in, effects_in}
use Rattle.state.proofs.Relevances.{told_from}
use Rattle.state.proofs.relevance.walk_effects.Given as goal

abbrev pub invariant-loop-tag : goal.invariant-loop-tag
invariant-loop-tag l =
    relevance (effects_in l.signs (rows_in l.effects)) (wanted_in (rows_in l.wanted))
    ≡ told_from (wanted_in (rows_in l.wanted)) l.signs (relevance_of l.told) (rows_left l.tag-iterator)
