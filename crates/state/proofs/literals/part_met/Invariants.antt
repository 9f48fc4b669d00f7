-- The literal is met as it is by what was met so far and the rows that are left (`met_in`). Assumes nothing.
use mathlib.Core.Path.{◌≡◌}
use mathlib.Core.List.{[], ◌∷◌}
use Rattle.hgn.specs.Meaning.{literals}
use Rattle.sheet_index.specs.Index.{rows_in, rows_left}
use Rattle.state.specs.Literals.{literal_of}
use Rattle.state.specs.Effects.{met_of}
use Rattle.state.proofs.Meetings.{met_in}
use Rattle.state.proofs.literals.part_met.Given as goal

abbrev pub invariant-loop-tag : goal.invariant-loop-tag
invariant-loop-tag l =
    met_of (literals l.signs.positive l.signs.negative (rows_in l.effects)) (literal_of l.wanted ∷ [])
    ≡ met_in (literal_of l.wanted) l.signs.positive l.signs.negative l.met (rows_left l.tag-iterator)
