-- By its source. Assumes nothing.
use mathlib.Core.Path.{refl, ◌∙◌}
use Rattle.hgn.specs.Network.{is_parent}
use Rattle.network.specs.Entries.{waiting_of}
use Rattle.network.proofs.Afters.{same_names}
use Rattle.network.proofs.waiting.Entry.is_under.Goals as goal

pub returns-in-Some : goal.returns-in-Some
unfolding waiting_of is_parent
returns-in-Some c shop order = rw c.in-Some.is (c.eq.ensures ∙ same_names _ _)

pub returns-in-None : goal.returns-in-None
unfolding waiting_of is_parent
returns-in-None c shop order = rw c.in-None.is refl
