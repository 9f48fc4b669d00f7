-- A row without a literal meets none. Assumes nothing.
use Rattle.hgn.specs.Lists.{any}
use Rattle.hgn.specs.State.{contains}
use Rattle.state.specs.Effects.{met_of}
use Rattle.state.proofs.literals.row_met.Goals as goal

pub returns-in-None : goal.returns-in-None
unfolding met_of contains any
returns-in-None c = rw (← c.in-None.ensures)
