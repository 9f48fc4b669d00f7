-- The facts that the loop leaves. Assumes nothing.
use native.Mathlib.Omega.{arith}
use Rattle.sheet_index.proofs.NodeWalks.{passed_none, passed_more, passed_all, passed_few, ahead}
use Rattle.sheet_index.proofs.operators.nodes_between.Goals as goal

pub loop-row-init : goal.loop-row-init
loop-row-init c = let p = c.requires in (p.0, p.1, p.2, passed_none _ p.1)

pub overflow_add-count : goal.overflow_add-count
overflow_add-count c = let i = c.loop-row.invariant in omega (arith, passed_few i.3, i.2)

pub bounds-tables-row : goal.bounds-tables-row
bounds-tables-row c = (ahead c.loop-row-test.true c.loop-row.invariant.3.onward).inside

pub loop-row-smaller : goal.loop-row-smaller
loop-row-smaller c = let f = ahead c.loop-row-test.true c.loop-row.invariant.3.onward in omega (arith, f.grows, f.below)

pub loop-row-preserved : goal.loop-row-preserved
loop-row-preserved c = let i = c.loop-row.invariant in (i.0, i.1, i.2, passed_more i.3 c.loop-row-test.true)

pub returns : goal.returns
returns c bs w = let i = c.loop-row.invariant in passed_all i.1 i.3 c.loop-row-test.false w
