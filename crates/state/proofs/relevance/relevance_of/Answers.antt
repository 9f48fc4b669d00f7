-- The effects are none, one, two, or more. Assumes nothing.
use mathlib.Core.Path.{◌∙◌}
use Rattle.state.proofs.Relevances.{none_meet, two_alone}
use Rattle.state.proofs.relevance.relevance_of.Goals as goal

pub returns-in_default : goal.returns-in_default
returns-in_default c = none_meet _ c.in_default.ensures

-- Two effects.
pub returns-in-None : goal.returns-in-None
returns-in-None c = c.two_meet.ensures ∙ two_alone _ c.in-Some.ensures c.in-Some-next_effect.ensures c.in-None.ensures
