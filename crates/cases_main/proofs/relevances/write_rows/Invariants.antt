-- The rows up to each that is reached stand in the room (`Laid`). Assumes nothing.
use Rattle.cases_main.proofs.Pairs.{Laid}
use Rattle.cases_main.proofs.relevances.write_rows.Given as goal

abbrev pub invariant-loop-row : goal.invariant-loop-row
invariant-loop-row l = Laid l.words l.initial.room l.room l.row
