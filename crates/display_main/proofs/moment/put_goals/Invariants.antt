-- The text holds what stood in front, then a line for each waiting goal passed (`GoalLines`). Assumes nothing.
use Rattle.display_main.proofs.GoalLines.{GoalLines}
use Rattle.display_main.proofs.moment.put_goals.Given as goal

abbrev pub invariant-loop-place : goal.invariant-loop-place
invariant-loop-place l = GoalLines l.waiting l.initial.text l.text l.at l.end l.place
