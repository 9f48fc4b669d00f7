-- 256 times false is the empty state. Assumes nothing.
use mathlib.Core.Path.{refl}
use Rattle.hgn.specs.State.{empty_state}
use Rattle.state.proofs.atoms.State.empty.Goals as goal

pub returns : goal.returns
unfolding empty_state
returns c = refl
