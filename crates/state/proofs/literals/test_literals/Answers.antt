-- The facts that the loop leaves. Assumes nothing.
use Rattle.hgn.specs.Lists.{all}
use Rattle.hgn.specs.Meaning.{literals}
use Rattle.hgn.specs.State.{all_hold, unmet}
use mathlib.Core.Path.{refl}
use Rattle.sheet_index.proofs.Columns.{next_row, no_row_left, by_rows}
use Rattle.state.proofs.ByRow.{told_in, told_holds, told_fails}
use Rattle.state.proofs.Tests.{tested}
use Rattle.state.proofs.literals.test_literals.Goals as goal

pub loop-tag-init : goal.loop-tag-init
loop-tag-init c = rw (c.into_iter-tag-iterator.ensures.into_iter_gives, c.iter-tag-items.ensures)

pub loop-tag-preserved : goal.loop-tag-preserved
loop-tag-preserved c =
    by_rows (told_in _ _ _) c.loop-tag.invariant
    (next_row c.loop-tag.tag-iterator c.next.new.self c.next.ensures.steps c.in-Some.is)
    (told_holds _ _ _ _ _ c.row_holds.ensures c.if-not-row_holds.false)

pub returns-then-not-row_holds : goal.returns-then-not-row_holds
returns-then-not-row_holds c =
    tested _ (by_rows (told_in _ _ _) c.loop-tag.invariant
    (next_row c.loop-tag.tag-iterator c.next.new.self c.next.ensures.steps c.in-Some.is)
    (told_fails _ _ _ _ _ c.row_holds.ensures c.if-not-row_holds.true))

pub returns : goal.returns
unfolding all_hold all unmet literals
returns c = tested _ (by_rows (told_in _ _ _) c.loop-tag.invariant (no_row_left c.loop-tag.tag-iterator c.next.new.self c.next.ensures.steps c.in-None.is) refl)
