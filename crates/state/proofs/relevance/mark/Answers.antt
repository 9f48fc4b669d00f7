-- The facts that the loop leaves. Assumes nothing.
use mathlib.Core.Path.{refl}
use Rattle.sheet_index.proofs.Columns.{next_row, no_row_left}
use Rattle.state.proofs.Relevances.{mark_true, mark_no_true, mark_false, mark_no_false, mark_none, marked_true, marked_false}
use Rattle.state.proofs.relevance.mark.Goals as goal

pub loop-tag-init : goal.loop-tag-init
loop-tag-init c =
    record {
      wanted_true_marked = rw (c.into_iter-tag-iterator.ensures.into_iter_gives, c.iter-tag-items.ensures);
      wanted_false_marked = rw (c.into_iter-tag-iterator.ensures.into_iter_gives, c.iter-tag-items.ensures);
      positive_length = refl;
      negative_length = refl;
    }

pub loop-tag-preserved-then-at-positive : goal.loop-tag-preserved-then-at-positive
loop-tag-preserved-then-at-positive c = mark_true c.loop-tag.invariant _ _ (next_row c.loop-tag.tag-iterator c.next.new.self c.next.ensures.steps c.in-Some.is) c.if-tag-eq-WANTED_TRUE.true

pub loop-tag-preserved-else-at-positive : goal.loop-tag-preserved-else-at-positive
loop-tag-preserved-else-at-positive c =
    mark_no_true c.loop-tag.invariant _ _
    (next_row c.loop-tag.tag-iterator c.next.new.self c.next.ensures.steps c.in-Some.is) c.if-tag-eq-WANTED_TRUE.true c.if-at-positive.false

pub loop-tag-preserved-then-at-negative : goal.loop-tag-preserved-then-at-negative
loop-tag-preserved-then-at-negative c =
    mark_false c.loop-tag.invariant _ _
    (next_row c.loop-tag.tag-iterator c.next.new.self c.next.ensures.steps c.in-Some.is) c.if-tag-eq-WANTED_TRUE.false c.if-tag-eq-WANTED_FALSE.true

pub loop-tag-preserved-else-at-negative : goal.loop-tag-preserved-else-at-negative
loop-tag-preserved-else-at-negative c =
    mark_no_false c.loop-tag.invariant _ _
    (next_row c.loop-tag.tag-iterator c.next.new.self c.next.ensures.steps c.in-Some.is)
    c.if-tag-eq-WANTED_TRUE.false c.if-tag-eq-WANTED_FALSE.true c.if-at-negative.false

pub loop-tag-preserved : goal.loop-tag-preserved
loop-tag-preserved c =
    mark_none c.loop-tag.invariant _ _
    (next_row c.loop-tag.tag-iterator c.next.new.self c.next.ensures.steps c.in-Some.is) c.if-tag-eq-WANTED_TRUE.false c.if-tag-eq-WANTED_FALSE.false

pub returns : goal.returns
returns c =
    let end = no_row_left c.loop-tag.tag-iterator c.next.new.self c.next.ensures.steps c.in-None.is in
    (marked_true c.loop-tag.invariant end, marked_false c.loop-tag.invariant end)
