-- The facts that the loop leaves. Assumes nothing.
use native.Mathlib.Omega.{arith}
use borrow.Author.Rules.{rules}
use Rattle.display_main.proofs.GoalLines.{goals_none, goals_more, goals_all}
use Rattle.display_main.proofs.moment.put_goals.Goals as goal

pub loop-place-init : goal.loop-place-init
loop-place-init c = goals_none _ _ _

pub loop-place-preserved : goal.loop-place-preserved
loop-place-preserved c =
    goals_more _ _ _ _ _ _ _ _ c.loop-place.invariant (omega (arith, c.len-place-end.ensures)) c.put_goal-end.ensures.few (search rules)
    c.put_goal-end.ensures.text

pub returns-clause-text : goal.returns-clause-text
returns-clause-text c = goals_all _ _ _ _ _ _ c.loop-place.invariant (omega (arith, c.loop-place-test.false, c.len-place-end.ensures))
