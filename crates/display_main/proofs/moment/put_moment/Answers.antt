-- The first line, the atoms and the goals stand one behind the other. Assumes nothing.
use lib.ListN.{take}
use Rattle.display_main.proofs.Turns.{moment_is}
use Rattle.display_main.proofs.moment.put_moment.Goals as goal

pub returns-clause-text : goal.returns-clause-text
returns-clause-text c =
    moment_is _ _ _ c.args.problem (take c.args.at c.args.text.now) c.true_count-holding.ensures c.len-waits.ensures c.put_numbers-first.ensures.text
    c.put_atoms-second.ensures.text c.put_goals.ensures.text
