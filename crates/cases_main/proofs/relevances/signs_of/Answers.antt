-- The test is the definition's. Assumes nothing.
use Rattle.cases_main.proofs.Pairs.{tags_of_goal, tags_of_action}
use Rattle.cases_main.proofs.relevances.signs_of.Goals as goal

pub returns-then-has_wanted : goal.returns-then-has_wanted
returns-then-has_wanted c = tags_of_goal _ c.has_wanted.ensures c.if-has_wanted.true

pub returns-else-has_wanted : goal.returns-else-has_wanted
returns-else-has_wanted c = tags_of_action _ c.has_wanted.ensures c.if-has_wanted.false
