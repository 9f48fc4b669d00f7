-- The line of the step, and behind it the moment after it where it is taken. Assumes nothing.
use Rattle.display_main.proofs.Checks.{taken_number, refused_number}
use Rattle.display_main.proofs.Turns.{turn_taken, turn_refused}
use Rattle.display_main.proofs.turn.put_turn.Goals as goal

pub returns-in-Ok-clause-text : goal.returns-in-Ok-clause-text
returns-in-Ok-clause-text c =
    turn_taken _ _ c.args.shown _ (taken_number c.in-Ok.is) c.put_step-end.ensures.text c.put_moment.ensures.text

pub returns-in-Err-clause-text : goal.returns-in-Err-clause-text
returns-in-Err-clause-text c = turn_refused _ _ c.args.shown (refused_number c.in-Err.is) c.put_step-end.ensures.text
