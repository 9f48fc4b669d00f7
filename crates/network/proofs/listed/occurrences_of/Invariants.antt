-- What was found and what the rows that are left have come to all. Assumes nothing.
use Prim.Native.Nat.{◌+◌}
use mathlib.Core.Path.{◌≡◌}
use Rattle.hgn.specs.Rows.{values_tagged}
use Rattle.sheet_index.specs.Index.{rows_in, rows_left}
use Rattle.network.specs.Pending.{occurrences}
use Rattle.network.proofs.listed.occurrences_of.Given as goal

abbrev pub invariant-loop-tag : goal.invariant-loop-tag
invariant-loop-tag l =
    occurrences l.number (values_tagged 11 (rows_in l.node)) ≡ l.found + occurrences l.number (values_tagged 11 (rows_left l.tag-iterator))
