-- The facts that the loop leaves. Assumes nothing.
use mathlib.Core.Path.{sym, ◌∙◌}
use Rattle.hgn.specs.Meaning.{literals}
use Rattle.sheet_index.proofs.Columns.{next_row, no_row_left, by_rows}
use Rattle.state.proofs.Meetings.{met_in, met_from_law, met_so_far, first_opposed, first_helped, first_untouched}
use Rattle.state.proofs.literals.part_met.Goals as goal

pub loop-tag-init : goal.loop-tag-init
loop-tag-init c = met_from_law _ _ ∙ rw (c.into_iter-tag-iterator.ensures.into_iter_gives, c.iter-tag-items.ensures)

pub returns-in-Opposite : goal.returns-in-Opposite
returns-in-Opposite c =
    sym (by_rows (met_in _ _ _ _) c.loop-tag.invariant
    (next_row c.loop-tag.tag-iterator c.next.new.self c.next.ensures.steps c.in-Some.is)
    (first_opposed _ _ _ _ _ _ (sym c.row_met.ensures ∙ c.in-Opposite.is)))

pub loop-tag-preserved-in-Same : goal.loop-tag-preserved-in-Same
loop-tag-preserved-in-Same c =
    by_rows (met_in _ _ _ _) c.loop-tag.invariant
    (next_row c.loop-tag.tag-iterator c.next.new.self c.next.ensures.steps c.in-Some.is) (first_helped _ _ _ _ _ _ (sym c.row_met.ensures ∙ c.in-Same.is))

pub loop-tag-preserved : goal.loop-tag-preserved
loop-tag-preserved c =
    by_rows (met_in _ _ _ _) c.loop-tag.invariant
    (next_row c.loop-tag.tag-iterator c.next.new.self c.next.ensures.steps c.in-Some.is)
    (first_untouched _ _ _ _ _ _ (sym c.row_met.ensures ∙ c.in-Neither.is))

pub returns : goal.returns
unfolding literals
returns c = sym (by_rows (met_in _ _ _ _) c.loop-tag.invariant (no_row_left c.loop-tag.tag-iterator c.next.new.self c.next.ensures.steps c.in-None.is) (met_so_far _ _))
