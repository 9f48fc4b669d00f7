-- The first tag that is a node's, if there is one. Assumes nothing.
use Rattle.std.proofs.Common.{rules}
use Rattle.sheet_join.proofs.Goals.{begins_at}
use Rattle.sheet_join.proofs.joining.first_goal.Goals as goal

pub returns : goal.returns
returns c =
    begins_at c.args.layout.sizes c.args.layout.rows c.args.order.now c.requires.enough c.unwrap_or.result
    (search rules) (search rules) (search rules)
