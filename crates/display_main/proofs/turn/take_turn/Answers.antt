-- The step's text is that of what the display's step comes to. Assumes nothing.
use Rattle.display_main.proofs.turn.take_turn.Goals as goal

pub returns-clause-text : goal.returns-clause-text
returns-clause-text c =
    let f = c.show_step-shown.ensures in
    c.put_turn-end.ensures.text _ _ _ f.comes_to f.valid
