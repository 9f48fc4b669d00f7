-- By the name of the other. Assumes nothing.
use Rattle.listing.proofs.above.is_parent.Goals as goal

pub returns : goal.returns
returns c shop order = rw c.name.ensures at c.is_under.ensures shop order
