-- The rows that are left are among all; what was added so far is needed. Assumes nothing.
use mathlib.Core.List.{Memᴰ}
use Rattle.hgn.specs.Meaning.{Literal, literals}
use Rattle.sheet_index.specs.Index.{rows_in, rows_left}
use Rattle.search_bound.specs.NeededMoves.{WantedAll, WithAchievers}
use Rattle.search_bound.proofs.least.add_rows.Given as goal

abbrev pub invariant-loop-tag : goal.invariant-loop-tag
invariant-loop-tag l =
    ((x : Literal) → Memᴰ x (literals l.signs.positive l.signs.negative (rows_left l.tag-iterator))
    → Memᴰ x (literals l.signs.positive l.signs.negative (rows_in l.rows)))
    × WithAchievers (WantedAll (literals l.signs.positive l.signs.negative (rows_in l.rows))) l.atoms l.table l.actions l.initial.moves l.moves
