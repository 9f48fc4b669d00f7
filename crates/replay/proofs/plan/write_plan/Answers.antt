-- The facts that the loop leaves. Assumes nothing.
use Rattle.replay.proofs.Writes.{writing_none, writing_zero, writing_other, writing_more, writing_fits, writing_all}
use Rattle.replay.proofs.plan.write_plan.Goals as goal
use Rattle.replay.proofs.plan.write_plan.Goals.{then-number-gt0+then-number-actions, else-number-gt0, else-number-gt0-via-then-number-gt0+else-number-actions, else-number-gt0-via-else-number-gt0}

pub loop-number-init : goal.loop-number-init
loop-number-init c = writing_none _ _ _

pub bounds-room-written : goal.bounds-room-written
bounds-room-written c = writing_fits _ _ _ c.loop-number.invariant c.loop-number-test.true c.requires

pub loop-number-preserved : goal.loop-number-preserved
loop-number-preserved c =
    elim c.if-number-gt0.branch [
      | then-number-gt0+then-number-actions w ↦
          rw (w.room-is, w.written-is)
          (writing_more _ _ _ _ _ _ c.loop-number.invariant c.loop-number-test.true c.requires w.if-number-gt0.true w.if-number-actions.true)
      | else-number-gt0 w ↦
          rw (w.room-is, w.written-is)
          (elim w.else-number-gt0.branch [
            | else-number-gt0-via-then-number-gt0+else-number-actions v ↦
                writing_other _ _ _ _ _ _ c.loop-number.invariant c.loop-number-test.true v.if-number-gt0.true v.if-number-actions.false
            | else-number-gt0-via-else-number-gt0 v ↦ writing_zero _ _ _ _ _ _ c.loop-number.invariant c.loop-number-test.true v.if-number-gt0.false
          ])
    ]

pub returns : goal.returns
returns c = writing_all _ _ _ c.loop-number.invariant c.loop-number-test.false
