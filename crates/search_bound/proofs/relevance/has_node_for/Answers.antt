-- The facts that the loop leaves. Assumes nothing.
use native.Mathlib.Omega.{arith}
use Rattle.sheet_rows.proofs.Laws.{told}
use Rattle.sheet_index.proofs.NodeWalks.{ahead}
use Rattle.search_bound.proofs.OnlyMethods.{looked_found, looked_more, looked_all}
use Rattle.search_bound.proofs.relevance.has_node_for.Goals as goal

pub returns-then-relevant_to : goal.returns-then-relevant_to
returns-then-relevant_to c bs w = looked_found c.loop-row.invariant c.loop-row-test.true (told (rw c.of_shop-node.ensures at c.relevant_to.ensures) c.if-relevant_to.true) w

pub loop-row-smaller : goal.loop-row-smaller
loop-row-smaller c = let f = ahead c.loop-row-test.true c.loop-row.invariant.onward in omega (arith, f.grows, f.below)

pub loop-row-preserved : goal.loop-row-preserved
loop-row-preserved c = looked_more c.loop-row.invariant c.loop-row-test.true (told (rw c.of_shop-node.ensures at c.relevant_to.ensures) c.if-relevant_to.false)

pub returns : goal.returns
returns c bs w = looked_all c.loop-row.invariant w c.loop-row-test.false
