-- The facts that the loop leaves. Assumes nothing.
use native.Mathlib.Omega.{arith}
use lib.ListN.{length-set}
use Rattle.cases_main.proofs.Pairs.{none_laid, one_laid, all_laid}
use Rattle.cases_main.proofs.relevances.write_rows.Goals as goal

pub loop-row-init : goal.loop-row-init
loop-row-init c = none_laid _ _

pub bounds-room-row : goal.bounds-room-row
bounds-room-row c = omega (arith, c.loop-row.invariant.long)

pub bounds-room-rows : goal.bounds-room-rows
bounds-room-rows c = rw length-set (omega (arith, c.loop-row.invariant.long))

pub loop-row-preserved : goal.loop-row-preserved
loop-row-preserved c = one_laid _ _ _ _ c.requires c.loop-row.invariant (omega arith)

pub shape_of-room : goal.shape_of-room
shape_of-room c = c.loop-row.invariant.long

pub returns : goal.returns
returns c = all_laid _ _ _ _ c.requires c.loop-row.invariant (omega arith)
