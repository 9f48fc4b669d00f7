-- An effect meets a literal of its atom, as the signs are the same or not. Assumes nothing.
use Rattle.state.proofs.Meetings.{other_atom, same_sign, other_sign}
use Rattle.state.proofs.literals.literal_met.Goals as goal

pub returns-then-effect-wanted : goal.returns-then-effect-wanted
returns-then-effect-wanted c = other_atom c.args.effect.sign c.args.wanted.sign c.if-effect-wanted.true

pub returns-then-effect-wanted-2 : goal.returns-then-effect-wanted-2
returns-then-effect-wanted-2 c = same_sign c.args.effect.sign c.args.wanted.sign c.if-effect-wanted.false c.if-effect-wanted-2.true

pub returns-else-effect-wanted-2 : goal.returns-else-effect-wanted-2
returns-else-effect-wanted-2 c = other_sign c.args.effect.sign c.args.wanted.sign c.if-effect-wanted.false c.if-effect-wanted-2.false
