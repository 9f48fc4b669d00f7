-- A row without an effect does nothing. Assumes nothing.
use mathlib.Core.Path.{sym}
use Rattle.state.proofs.Relevances.{none_meet}
use Rattle.state.proofs.relevance.row_meets.Goals as goal

pub returns-in-Some : goal.returns-in-Some
returns-in-Some c = rw (← c.in-Some.ensures) c.effect_meets.ensures

pub returns-in-None : goal.returns-in-None
returns-in-None c = none_meet _ (sym c.in-None.ensures)
