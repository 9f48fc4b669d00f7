-- Behind the first 8 the rows want what the node wants. Assumes nothing.
use mathlib.Core.Path.{ap, ◌∙◌}
use Rattle.hgn.specs.Meaning.{literals}
use Rattle.hgn.specs.Relevance.{relevance}
use Rattle.sheet_index.specs.Index.{rows_in}
use Rattle.state.proofs.relevance.relevance_to_node.Goals as goal

pub returns : goal.returns
returns c =
    c.relevance_of.ensures
    ∙ ap (relevance (literals c.args.signs.positive c.args.signs.negative (rows_in c.args.effects))) c.behind_first_alternative.ensures.wants
