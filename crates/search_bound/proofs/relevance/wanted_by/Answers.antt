-- The facts that the loop leaves. Assumes nothing.
use native.Mathlib.Omega.{arith}
use Rattle.search_bound.proofs.Effects.{wanted_at, goals_none, goals_found, goals_on}
use Rattle.search_bound.proofs.relevance.wanted_by.Goals as goal

pub returns-then-relevant_to : goal.returns-then-relevant_to
returns-then-relevant_to c =
    goals_found _ _ c.args.goals.now _ _ c.loop-i.invariant (omega arith) c.entry_at-goal.ensures
    (wanted_at _ _ _ _ c.action_part-rows.ensures _ c.relevant_to.ensures c.if-relevant_to.true)

pub loop-i-preserved : goal.loop-i-preserved
loop-i-preserved c =
    goals_on _ _ c.args.goals.now _ _ c.loop-i.invariant (omega arith) c.entry_at-goal.ensures
    (wanted_at _ _ _ _ c.action_part-rows.ensures _ c.relevant_to.ensures c.if-relevant_to.false)

pub returns : goal.returns
returns c = goals_none _ _ c.args.goals.now _ c.loop-i.i c.loop-i.invariant (omega arith)
