-- One goal more is lowered (`Lowering`). Assumes nothing.
use mathlib.Core.Path.{sym, ◌∙◌}
use borrow.Author.Tests.{eqb-true}
use Rattle.network.proofs.Lowering.{lowering_few, lowering_more, lowering_none}
use Rattle.network.proofs.listed.lower_counts.Goals as goal
use Rattle.network.proofs.listed.lower_counts.Goals.{then-not-is_free, else-not-is_free}

pub less-later-requires : goal.less-later-requires
less-later-requires c = lowering_few _ _ _ _ _ _ c.requires c.loop-later.invariant c.loop-later-test.true c.times_listed.ensures

pub loop-later-preserved : goal.loop-later-preserved
loop-later-preserved c =
    elim c.if-not-is_free.branch [
      | then-not-is_free w ↦ w.goals-is ∙ lowering_more _ _ _ _ _ _ c.requires c.loop-later.invariant c.loop-later-test.true w.times_listed.ensures w.less-later.ensures
      | else-not-is_free w ↦ w.goals-is ∙ lowering_none _ _ _ _ _ _ c.requires c.loop-later.invariant c.loop-later-test.true (eqb-true _ _ (sym c.is_free.ensures ∙ w.if-not-is_free.false))
    ]
