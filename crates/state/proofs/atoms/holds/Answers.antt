-- An atom past a state's end is not in. Assumes nothing.
use mathlib.Core.Path.{refl}
use mathlib.Core.Bool.{Bool, true, false, beq, not}
use mathlib.Core.Path.{◌≡◌}
use lib.ListN.{get_or-eq_default}
use Rattle.hgn.specs.State.{literal_holds}
use Rattle.state.proofs.atoms.holds.Goals as goal

pub returns-then-at-list : goal.returns-then-at-list
unfolding literal_holds
returns-then-at-list c = refl

pub returns-else-at-list : goal.returns-else-at-list
unfolding literal_holds
returns-else-at-list c = rw (get_or-eq_default c.args.atoms.now false c.if-at-list.false) (go c.args.sign)
  where
    go : (b : Bool) → not b ≡ beq false b
    go true = refl
    go false = refl
