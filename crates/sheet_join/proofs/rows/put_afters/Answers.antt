-- The facts that the loop leaves. Assumes nothing.
use native.Mathlib.Omega.{arith}
use Rattle.sheet_join.proofs.Putting.{afters_all, after_next, afters_done}
use Rattle.sheet_join.proofs.rows.put_afters.Goals as goal

pub loop-goal-init : goal.loop-goal-init
loop-goal-init c = afters_all _ _ _ _ _

pub loop-goal-preserved : goal.loop-goal-preserved
loop-goal-preserved c = after_next _ _ _ _ _ c.args.before c.loop-goal.goal (omega arith) c.loop-goal.invariant c.put.ensures

pub returns : goal.returns
returns c = afters_done _ _ _ _ _ c.args.before c.loop-goal.goal (omega arith) c.loop-goal.invariant
