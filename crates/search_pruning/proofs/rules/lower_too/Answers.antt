-- An action's effects by its rows. Assumes nothing.
use Rattle.search_pruning.proofs.Asked.{lower_action, lower_other}
use Rattle.search_pruning.proofs.rules.lower_too.Goals as goal

pub returns-in-Act : goal.returns-in-Act
returns-in-Act c = lower_action c.in-Act.is c.action_part-rows.ensures _ _ c.relevant_lower.ensures

pub returns-in_default : goal.returns-in_default
returns-in_default c = lower_other _ _ c.in_default.not-Act _ _
