-- The facts that the loop leaves. Assumes nothing.
use native.Mathlib.Omega.{arith}
use borrow.Author.Rules.{rules}
use Rattle.search_pruning.proofs.Lower.{holds_end, holds_not, holds_on}
use Rattle.search_pruning.proofs.rules.goals_hold.Goals as goal

pub returns-then-not-goal_holds : goal.returns-then-not-goal_holds
returns-then-not-goal_holds c =
    holds_not _ _ c.args.goals.now _ _ c.loop-i.invariant (omega arith) c.entry_at-goal.ensures c.goal_holds.ensures (search rules)

pub loop-i-preserved : goal.loop-i-preserved
loop-i-preserved c = holds_on _ _ c.args.goals.now _ _ c.loop-i.invariant (omega arith) c.entry_at-goal.ensures c.goal_holds.ensures (search rules)

pub returns : goal.returns
returns c = holds_end _ _ c.args.goals.now _ _ c.loop-i.invariant (omega arith)
