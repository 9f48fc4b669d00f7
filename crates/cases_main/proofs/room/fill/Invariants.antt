-- The room keeps its length, and its words up to each place that is reached are as before a call (`Blanked`). Assumes nothing.
use Rattle.cases_main.proofs.Rooms.{Blanked}
use Rattle.cases_main.proofs.room.fill.Given as goal

abbrev pub invariant-loop-at : goal.invariant-loop-at
invariant-loop-at l = Blanked l.initial.room l.room l.at
