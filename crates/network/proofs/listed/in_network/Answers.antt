-- Assumes nothing.
use mathlib.Core.Path.{◌∙◌}
use Rattle.network.proofs.Afters.{last_afters, row_afters}
use Rattle.network.proofs.listed.in_network.Goals as goal

pub returns-then-goal : goal.returns-then-goal
returns-then-goal c = search last_afters

pub returns : goal.returns
returns c = c.count_afters.ensures ∙ row_afters _ _ _ _ c.if-goal.false c.rows.ensures.rows
