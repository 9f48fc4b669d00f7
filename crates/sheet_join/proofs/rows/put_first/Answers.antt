-- The facts that the loop leaves. Assumes nothing.
use Rattle.sheet_join.proofs.Putting.{left_all, stands_next, stands_done}
use Rattle.sheet_join.proofs.rows.put_first.Goals as goal

pub loop-i-init : goal.loop-i-init
loop-i-init c = left_all _ _ _ _ _

pub loop-i-preserved : goal.loop-i-preserved
loop-i-preserved c =
    stands_next _ _ _ _ _ c.args.from.sizes c.args.from.rows c.args.first.now c.requires.1.enough c.loop-i.i c.loop-i-test.true c.loop-i.invariant
    c.tag.ensures c.value.ensures c.put.ensures

pub returns : goal.returns
returns c = stands_done _ _ _ _ _ c.args.from.sizes c.args.from.rows c.args.first.now c.requires.1.enough c.loop-i.i c.loop-i-test.false c.loop-i.invariant
