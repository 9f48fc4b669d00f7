-- The text holds what stood in front, then a line for each action passed (`Lines`). Assumes nothing.
use Rattle.replay_main.proofs.Lines.{Lines}
use Rattle.replay_main.proofs.answer.put_lines.Given as goal

abbrev pub invariant-loop-action : goal.invariant-loop-action
invariant-loop-action l = Lines l.plan l.initial.text l.text l.at l.end l.action-index
