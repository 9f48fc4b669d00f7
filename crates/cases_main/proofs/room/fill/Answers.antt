-- The facts that the loop leaves. Assumes nothing.
use Rattle.cases_main.proofs.Rooms.{none_blanked, one_blanked, all_blanked}
use Rattle.cases_main.proofs.room.fill.Goals as goal

pub loop-at-init : goal.loop-at-init
loop-at-init c = none_blanked _

pub loop-at-preserved : goal.loop-at-preserved
loop-at-preserved c = one_blanked _ _ _ c.loop-at.invariant c.loop-at-test.true c.blank.ensures

pub returns : goal.returns
returns c = all_blanked _ _ _ c.loop-at.invariant c.loop-at-test.false
