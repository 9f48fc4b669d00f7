-- A row without a literal wants none. Assumes nothing.
use Rattle.hgn.specs.Lists.{any}
use Rattle.state.specs.Effects.{met_of}
use Rattle.state.proofs.literals.wanted_met.Goals as goal

pub returns-in-Some : goal.returns-in-Some
returns-in-Some c = rw (← c.in-Some.ensures) c.part_met.ensures

pub returns-in-None : goal.returns-in-None
unfolding met_of any
returns-in-None c = rw (← c.in-None.ensures)
