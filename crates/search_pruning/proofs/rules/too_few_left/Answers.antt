-- The tests are the definition's; as many wait as are counted. Assumes nothing.
use Rattle.search_pruning.proofs.Lower.{few_below, few_above, few_open}
use Rattle.search_pruning.proofs.rules.too_few_left.Goals as goal

pub returns-then-left-count : goal.returns-then-left-count
returns-then-left-count c = few_below _ _ c.args.goals.now _ _ c.len-count.ensures c.if-left-count.true

pub returns-then-left-count-2 : goal.returns-then-left-count-2
returns-then-left-count-2 c = few_open _ _ c.args.goals.now _ _ c.len-count.ensures c.if-left-count-2.true c.goals_hold.ensures

pub returns-else-left-count-2 : goal.returns-else-left-count-2
returns-else-left-count-2 c = few_above _ _ c.args.goals.now _ _ c.len-count.ensures c.if-left-count.false c.if-left-count-2.false
