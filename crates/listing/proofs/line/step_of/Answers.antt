-- By its source. Assumes nothing.
use mathlib.Core.Path.{refl}
use Rattle.hgn.specs.Network.{step_number}
use Rattle.listing.proofs.line.step_of.Goals as goal

pub returns-in-Some : goal.returns-in-Some
unfolding step_number
returns-in-Some c = rw c.in-Some.is refl

pub returns-in-None : goal.returns-in-None
unfolding step_number
returns-in-None c = rw c.in-None.is refl
