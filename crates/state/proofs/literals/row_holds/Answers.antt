-- A row's literal holds as its atom does. Assumes nothing.
use mathlib.Core.Path.{sym, ◌∙◌}
use mathlib.Core.Bool.{and-true}
use Rattle.hgn.specs.Lists.{all}
use Rattle.hgn.specs.State.{all_hold}
use Rattle.state.proofs.literals.row_holds.Goals as goal

pub returns-in-Some : goal.returns-in-Some
unfolding all_hold all
returns-in-Some c = rw (← c.in-Some.ensures) (c.holds.ensures ∙ sym (and-true _))

pub returns-in-None : goal.returns-in-None
unfolding all_hold all
returns-in-None c = rw (← c.in-None.ensures)
