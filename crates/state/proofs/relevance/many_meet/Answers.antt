-- The marks that were made are the rows' own. Assumes nothing.
use Rattle.hgn.specs.State.{empty_state}
use Rattle.state.proofs.relevance.many_meet.Goals as goal

pub walk_effects-requires : goal.walk_effects-requires
unfolding empty_state
walk_effects-requires c = record { wanted_true_marked = c.mark.ensures.0; wanted_false_marked = c.mark.ensures.1 }
