-- The facts that the loop leaves. Assumes nothing.
use mathlib.Core.Path.{refl, sym, ◌∙◌}
use Rattle.sheet_index.proofs.Columns.{next_row, no_row_left}
use Rattle.state.specs.Literals.{literal_of}
use Rattle.state.proofs.Relevances.{seen_row, seen_all, nothing_met}
use Rattle.state.proofs.relevance.one_meets.Goals as goal

pub loop-tag-init : goal.loop-tag-init
loop-tag-init c =
    record {
      wanted_true_marked = rw (c.into_iter-tag-iterator.ensures.into_iter_gives, c.iter-tag-items.ensures);
      wanted_false_marked = rw (c.into_iter-tag-iterator.ensures.into_iter_gives, c.iter-tag-items.ensures);
    }

pub loop-tag-preserved : goal.loop-tag-preserved
loop-tag-preserved c = seen_row c.loop-tag.invariant _ _ (next_row c.loop-tag.tag-iterator c.next.new.self c.next.ensures.steps c.in-Some.is) c.is_row-positive.ensures c.is_row-negative.ensures

pub returns-then-positive-negative : goal.returns-then-positive-negative
returns-then-positive-negative c = c.meets.ensures ∙ seen_all c.loop-tag.invariant (no_row_left c.loop-tag.tag-iterator c.next.new.self c.next.ensures.steps c.in-None.is) _ refl

pub returns-else-positive-negative : goal.returns-else-positive-negative
returns-else-positive-negative c =
    sym (nothing_met (literal_of c.args.effect) _ _ c.if-positive-negative.false) ∙ seen_all c.loop-tag.invariant
    (no_row_left c.loop-tag.tag-iterator c.next.new.self c.next.ensures.steps c.in-None.is) _ refl
