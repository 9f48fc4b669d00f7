-- The facts that the loop leaves. Assumes nothing.
use native.Mathlib.Omega.{arith}
use mathlib.Core.Path.{refl}
use Rattle.hgn.specs.Replay.{rules_of}
use Rattle.search_bound.proofs.Wants.{entry_wanted}
use Rattle.search_bound.proofs.least.add_goals.Goals as goal

pub loop-i-preserved : goal.loop-i-preserved
loop-i-preserved c shop e o h =
    c.add_goal.ensures shop _ refl e o (rw c.entry_at-goal.ensures (entry_wanted (rules_of shop) _ _ _ c.args.goals.now _ (omega arith)))
    (c.loop-i.invariant shop e o h)
