-- An action's effects by its rows. Assumes nothing.
use Rattle.search_pruning.proofs.Asked.{no_effect_action, no_effect_other}
use Rattle.search_pruning.proofs.rules.has_no_effect.Goals as goal

pub returns-in-Act : goal.returns-in-Act
returns-in-Act c = no_effect_action c.in-Act.is c.action_part-rows.ensures _ c.all_hold.ensures

pub returns-in_default : goal.returns-in_default
returns-in_default c = no_effect_other _ _ c.in_default.not-Act _
