-- The facts that the loop leaves. Assumes nothing.
use Rattle.search_pruning.proofs.Lower.{lower_none, lower_irrelevant, lower_found, lower_held}
use Rattle.search_pruning.proofs.rules.relevant_lower.Goals as goal
use Rattle.search_pruning.proofs.rules.relevant_lower.Goals.{then-is_free+else-relevant_to, else-is_free}

pub returns-then-relevant_to : goal.returns-then-relevant_to
returns-then-relevant_to c =
    lower_found _ _ _ c.requires.0 _ _ _ c.requires.1 c.loop-i.invariant c.loop-i-test.true c.is_free.ensures
    c.if-is_free.true c.entry_at-goal.ensures c.relevant_to.ensures c.if-relevant_to.true

pub loop-i-preserved : goal.loop-i-preserved
loop-i-preserved c =
    elim c.if-is_free.branch [
      | then-is_free+else-relevant_to w ↦
          lower_irrelevant _ _ _ c.requires.0 _ _ _ c.requires.1 c.loop-i.invariant c.loop-i-test.true c.is_free.ensures
          w.if-is_free.true w.entry_at-goal.ensures w.relevant_to.ensures w.if-relevant_to.false
      | else-is_free w ↦ lower_held _ _ _ c.requires.0 _ _ _ c.requires.1 c.loop-i.invariant c.loop-i-test.true c.is_free.ensures w.if-is_free.false
    ]

pub returns : goal.returns
returns c = lower_none _ _ _ c.requires.0 _ _ _ c.requires.1 c.loop-i.invariant c.loop-i-test.false
