-- The goal's rows are the span's. Assumes nothing.
use Rattle.state.proofs.parts.relevance_to.Goals as goal

pub returns : goal.returns
returns c = rw (← c.rows.ensures.rows) c.relevance_to_node.ensures
