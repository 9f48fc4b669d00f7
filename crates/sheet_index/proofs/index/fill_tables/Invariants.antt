-- From the row on everything is filled in (`FilledFrom`). Assumes nothing.
use Prim.Native.Nat.{ℕ, ◌+◌}
use mathlib.Core.Path.{◌≡◌}
use mathlib.Core.List.{List}
use lib.ListN.{set}
use Rattle.hgn.specs.Rows.{most_rows}
use Rattle.sheet_index.specs.Index.{Indexable}
use Rattle.sheet_index.proofs.Fills.{FilledFrom}
use Rattle.sheet_index.proofs.index.fill_tables.Given as goal

-- Of whatever table the end mark was set in.
abbrev pub invariant-loop-row : goal.invariant-loop-row
invariant-loop-row l =
    (table : List ℕ) (q : Indexable l.words l.layout table l.operators) → l.initial.tables ≡ set table (most_rows + l.operators) l.layout.rows → FilledFrom q l.tables l.end l.operator l.row
