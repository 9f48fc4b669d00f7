-- The numbers that are read off the words are those of the goal's line. Assumes nothing.
use lib.ListN.{take}
use Rattle.display_main.proofs.GoalLines.{goal_is}
use Rattle.display_main.proofs.moment.put_goal.Goals as goal

pub returns-clause-text : goal.returns-clause-text
returns-clause-text c =
    goal_is c.args.waiting.now _ (take c.args.at c.args.text.now) c.entry_at-goal.ensures c.is_free.ensures c.from-free.ensures c.step_of.ensures c.method_of.ensures
    c.put_numbers.ensures.text
