-- What was counted and the 11 rows that are left come to all. Assumes nothing.
use Prim.Native.Nat.{◌+◌}
use mathlib.Core.Path.{◌≡◌}
use lib.ListN.{length}
use Rattle.hgn.specs.Rows.{values_tagged}
use Rattle.sheet_index.specs.Index.{rows_in, rows_left}
use Rattle.network.proofs.listed.count_afters.Given as goal

abbrev pub invariant-loop-tag : goal.invariant-loop-tag
invariant-loop-tag l = length (values_tagged 11 (rows_in l.node)) ≡ l.found + length (values_tagged 11 (rows_left l.tag-iterator))
