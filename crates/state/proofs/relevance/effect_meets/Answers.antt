-- An atom is read off the marks; any other number is looked up among the rows. Assumes nothing.
use native.Mathlib.Omega.{arith}
use mathlib.Core.Path.{◌∙◌}
use Rattle.state.proofs.Relevances.{marks_tell}
use Rattle.state.proofs.relevance.effect_meets.Goals as goal

pub returns : goal.returns
returns c = c.meets.ensures ∙ marks_tell _ c.requires _ (omega (arith, c.if-atom-ge-MOST_ATOMS.false)) c.holds-wanted_true.ensures c.holds-wanted_false.ensures
