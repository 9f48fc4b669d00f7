-- An action's effects; the other moves leave the state. Assumes nothing.
use Rattle.search_pruning.proofs.Asked.{after_action, after_other}
use Rattle.search_pruning.proofs.rules.change.Goals as goal

pub returns-in-Act : goal.returns-in-Act
returns-in-Act c = after_action _ c.in-Act.is _ c.act.ensures

pub returns-in_default : goal.returns-in_default
returns-in_default c = after_other _ _ c.in_default.not-Act _
