-- The rows that are left are still to be noted. Assumes nothing.
use mathlib.Core.Path.{◌≡◌}
use Rattle.hgn.specs.Meaning.{literals}
use Rattle.sheet_index.specs.Index.{rows_in, rows_left}
use Rattle.search_bound.specs.Tables.{noted}
use Rattle.search_bound.proofs.achievers.Table.note_effects.Given as goal

abbrev pub invariant-loop-tag : goal.invariant-loop-tag
invariant-loop-tag l =
    noted l.operator (literals 5 6 (rows_in l.rows)) l.initial.self.entries ≡ noted l.operator (literals 5 6 (rows_left l.tag-iterator)) l.self.entries
