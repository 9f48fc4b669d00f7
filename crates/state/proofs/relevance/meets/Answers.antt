-- The effect's sign says which of the two is the opposite. Assumes nothing.
use Rattle.state.proofs.relevance.meets.Goals as goal

pub returns-then-negative : goal.returns-then-negative
returns-then-negative c = rw (c.if-effect.true, c.if-negative.true)

pub returns-then-positive : goal.returns-then-positive
returns-then-positive c = rw (c.if-effect.true, c.if-negative.false, c.if-positive.true)

pub returns-then-positive-2 : goal.returns-then-positive-2
returns-then-positive-2 c = rw (c.if-effect.false, c.if-positive-2.true)

pub returns-then-negative-2 : goal.returns-then-negative-2
returns-then-negative-2 c = rw (c.if-effect.false, c.if-positive-2.false, c.if-negative-2.true)
