-- The rows of the two rooms are handed on. Assumes nothing.
use mathlib.Core.Path.{ap₂, ◌∙◌}
use mathlib.Core.List.{List, flatten}
use Rattle.hgn.specs.Rows.{Row}
use Rattle.hgn.specs.Meaning.{node_of}
use Rattle.hgn.specs.Relevance.{Relevance, relevance}
use Rattle.state.specs.Relevances.{effects_in}
use Rattle.cases_main.proofs.relevances.relevance_in.Goals as goal

pub returns : goal.returns
returns c =
    c.relevance_to_node.ensures
    ∙ ap₂ {C = Relevance} (λ (es ws : List Row). relevance (effects_in c.args.signs es) (flatten (node_of ws).formula)) c.laid_rows.ensures c.laid_rows-2.ensures
