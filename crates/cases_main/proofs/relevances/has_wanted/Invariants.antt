-- A row that is wanted stands among those from each row that is reached on where it stands among all. Assumes nothing.
use mathlib.Core.Path.{◌≡◌}
use lib.ListN.{drop}
use Rattle.hgn.specs.Lists.{any}
use Rattle.cases_main.specs.Relevances.{pairs, is_wanted}
use Rattle.cases_main.proofs.relevances.has_wanted.Given as goal

abbrev pub invariant-loop-row : goal.invariant-loop-row
invariant-loop-row l = any is_wanted (drop l.row (pairs l.words)) ≡ any is_wanted (pairs l.words)
