-- The facts that the loop leaves. Assumes nothing.
use mathlib.Core.Path.{sym, ◌∙◌}
use Rattle.hgn.specs.Meaning.{literals}
use Rattle.sheet_index.specs.Index.{rows_in}
use Rattle.sheet_index.proofs.Columns.{next_row, no_row_left, by_rows}
use Rattle.state.proofs.Formulas.{relevant_from, relevant_from_law, helped_so_far, entered, still_outside, blocked, met_same, met_neither}
use Rattle.state.proofs.literals.is_relevant.Goals as goal

pub loop-tag-init : goal.loop-tag-init
loop-tag-init c = relevant_from_law _ _ ∙ rw (c.into_iter-tag-iterator.ensures.into_iter_gives, c.iter-tag-items.ensures)

pub loop-tag-preserved-then-tag-eq-ALTERNATIVE : goal.loop-tag-preserved-then-tag-eq-ALTERNATIVE
loop-tag-preserved-then-tag-eq-ALTERNATIVE c =
    by_rows (relevant_from (literals c.args.signs.positive c.args.signs.negative (rows_in c.args.effects)) c.loop-tag.inside c.loop-tag.helped) c.loop-tag.invariant
    (next_row c.loop-tag.tag-iterator c.next.new.self c.next.ensures.steps c.in-Some.is) (entered _ _ _ _ _ _ c.if-tag-eq-ALTERNATIVE.true)

pub returns-in-Opposite : goal.returns-in-Opposite
returns-in-Opposite c =
    sym (by_rows (relevant_from (literals c.args.signs.positive c.args.signs.negative (rows_in c.args.effects)) c.loop-tag.inside c.loop-tag.helped) c.loop-tag.invariant
    (next_row c.loop-tag.tag-iterator c.next.new.self c.next.ensures.steps c.in-Some.is)
    (rw c.if-inside.true (blocked (literals c.args.signs.positive c.args.signs.negative (rows_in c.args.effects)) _ _ _ _ c.wanted_met.ensures c.in-Opposite.is)))

pub loop-tag-preserved-in-Same : goal.loop-tag-preserved-in-Same
loop-tag-preserved-in-Same c =
    by_rows (relevant_from (literals c.args.signs.positive c.args.signs.negative (rows_in c.args.effects)) c.loop-tag.inside c.loop-tag.helped) c.loop-tag.invariant
    (next_row c.loop-tag.tag-iterator c.next.new.self c.next.ensures.steps c.in-Some.is)
    (rw c.if-inside.true (met_same (literals c.args.signs.positive c.args.signs.negative (rows_in c.args.effects)) _ _ _ _ c.wanted_met.ensures c.in-Same.is))

pub loop-tag-preserved-in-Neither : goal.loop-tag-preserved-in-Neither
loop-tag-preserved-in-Neither c =
    by_rows (relevant_from (literals c.args.signs.positive c.args.signs.negative (rows_in c.args.effects)) c.loop-tag.inside c.loop-tag.helped) c.loop-tag.invariant
    (next_row c.loop-tag.tag-iterator c.next.new.self c.next.ensures.steps c.in-Some.is)
    (rw c.if-inside.true (met_neither (literals c.args.signs.positive c.args.signs.negative (rows_in c.args.effects)) _ _ _ _ c.wanted_met.ensures c.in-Neither.is))

pub loop-tag-preserved : goal.loop-tag-preserved
loop-tag-preserved c =
    by_rows (relevant_from (literals c.args.signs.positive c.args.signs.negative (rows_in c.args.effects)) c.loop-tag.inside c.loop-tag.helped) c.loop-tag.invariant
    (next_row c.loop-tag.tag-iterator c.next.new.self c.next.ensures.steps c.in-Some.is)
    (rw c.if-inside.false (still_outside _ _ _ _ _ c.if-tag-eq-ALTERNATIVE.false))

pub returns : goal.returns
returns c =
    sym (by_rows (relevant_from (literals c.args.signs.positive c.args.signs.negative (rows_in c.args.effects)) c.loop-tag.inside c.loop-tag.helped) c.loop-tag.invariant
    (no_row_left c.loop-tag.tag-iterator c.next.new.self c.next.ensures.steps c.in-None.is) (helped_so_far _ _ _))
