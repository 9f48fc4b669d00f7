-- The rows handed back are the span's. Assumes nothing.
use Rattle.state.proofs.parts.test_goal.Goals as goal

pub returns : goal.returns
returns c = rw (← c.rows.ensures.rows) c.test_formula.ensures
