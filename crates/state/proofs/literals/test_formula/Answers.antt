-- The facts that the loop leaves. Assumes nothing.
use mathlib.Core.Path.{◌∙◌}
use Rattle.sheet_index.proofs.Columns.{next_row, no_row_left, by_rows}
use Rattle.state.proofs.Tests.{goal_tested}
use Rattle.state.proofs.Formulas.{told_from, told_from_law, told_held, told_begun, told_still_none, told_on, told_unmet, end_holds, end_fails}
use Rattle.state.proofs.literals.test_formula.Goals as goal
use Rattle.state.proofs.literals.test_formula.Goals.{else-so_far-2-via-then-so_far-2+else-not-row_holds, else-so_far-2-via-else-so_far-2}

pub loop-tag-init : goal.loop-tag-init
loop-tag-init c = told_from_law _ _ ∙ rw (c.into_iter-tag-iterator.ensures.into_iter_gives, c.iter-tag-items.ensures)

-- The walk ends where an alternative holds.
pub returns-then-so_far : goal.returns-then-so_far
returns-then-so_far c =
    goal_tested _ (by_rows (told_from c.args.atoms.now c.loop-tag.so_far c.loop-tag.unmet) c.loop-tag.invariant
    (next_row c.loop-tag.tag-iterator c.next.new.self c.next.ensures.steps c.in-Some.is)
    (rw c.if-so_far.true (told_held _ _ _ _ _ c.if-tag-eq-ALTERNATIVE.true)))

-- An alternative begins.
pub loop-tag-preserved-then-tag-eq-ALTERNATIVE : goal.loop-tag-preserved-then-tag-eq-ALTERNATIVE
loop-tag-preserved-then-tag-eq-ALTERNATIVE c =
    by_rows (told_from c.args.atoms.now c.loop-tag.so_far c.loop-tag.unmet) c.loop-tag.invariant
    (next_row c.loop-tag.tag-iterator c.next.new.self c.next.ensures.steps c.in-Some.is)
    (rw c.if-so_far.false (told_begun _ _ _ _ _ c.if-tag-eq-ALTERNATIVE.true))

-- A row is not as wanted.
pub loop-tag-preserved-then-not-row_holds : goal.loop-tag-preserved-then-not-row_holds
loop-tag-preserved-then-not-row_holds c =
    by_rows (told_from c.args.atoms.now c.loop-tag.so_far c.loop-tag.unmet) c.loop-tag.invariant (next_row c.loop-tag.tag-iterator c.next.new.self c.next.ensures.steps c.in-Some.is)
    (rw (c.if-so_far-2.true, c.or-unmet.ensures) (told_unmet _ _ _ _ _ c.if-tag-eq-ALTERNATIVE.false c.row_holds.ensures c.if-not-row_holds.true))

-- A row is as wanted, or no alternative is at hand that holds so far.
pub loop-tag-preserved : goal.loop-tag-preserved
loop-tag-preserved c =
    elim c.else-so_far-2.branch [
      | else-so_far-2-via-then-so_far-2+else-not-row_holds w ↦
          by_rows (told_from c.args.atoms.now c.loop-tag.so_far c.loop-tag.unmet) c.loop-tag.invariant (next_row c.loop-tag.tag-iterator c.next.new.self c.next.ensures.steps c.in-Some.is)
          (rw w.if-so_far-2.true (told_on _ _ _ _ _ c.if-tag-eq-ALTERNATIVE.false w.row_holds.ensures w.if-not-row_holds.false))
      | else-so_far-2-via-else-so_far-2 w ↦
          by_rows (told_from c.args.atoms.now c.loop-tag.so_far c.loop-tag.unmet) c.loop-tag.invariant (next_row c.loop-tag.tag-iterator c.next.new.self c.next.ensures.steps c.in-Some.is)
          (rw w.if-so_far-2.false (told_still_none _ _ _ _ _ c.if-tag-eq-ALTERNATIVE.false))
    ]

pub returns-then-so_far-3 : goal.returns-then-so_far-3
returns-then-so_far-3 c =
    goal_tested _ (by_rows (told_from c.args.atoms.now c.loop-tag.so_far c.loop-tag.unmet) c.loop-tag.invariant
    (no_row_left c.loop-tag.tag-iterator c.next.new.self c.next.ensures.steps c.in-None.is) (end_holds _ _ c.if-so_far-3.true))

pub returns : goal.returns
returns c =
    goal_tested _ (by_rows (told_from c.args.atoms.now c.loop-tag.so_far c.loop-tag.unmet) c.loop-tag.invariant
    (no_row_left c.loop-tag.tag-iterator c.next.new.self c.next.ensures.steps c.in-None.is) (rw c.unwrap_or.ensures (end_fails _ _ c.if-so_far-3.false)))
