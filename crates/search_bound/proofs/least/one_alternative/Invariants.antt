-- Whether there is one alternative is decided among the rows that are left. Assumes nothing.
use mathlib.Core.Path.{◌≡◌}
use mathlib.Core.Bool.{false}
use Rattle.sheet_index.specs.Index.{rows_in, rows_left}
use Rattle.search_bound.proofs.Wants.{one_from}
use Rattle.search_bound.proofs.least.one_alternative.Given as goal

abbrev pub invariant-loop-tag : goal.invariant-loop-tag
invariant-loop-tag l = one_from false (rows_in l.node) ≡ one_from l.found (rows_left l.tag-iterator)
