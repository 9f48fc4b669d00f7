-- The facts that the loop leaves. Assumes nothing.
use mathlib.Core.Path.{sym}
use Rattle.hgn.specs.Meaning.{literals}
use Rattle.sheet_index.proofs.Columns.{next_row, no_row_left, by_rows}
use Rattle.search_bound.proofs.OnlyAchieved.{noted_in, noted_first, none_noted}
use Rattle.search_bound.proofs.achievers.Table.note_effects.Goals as goal

pub loop-tag-init : goal.loop-tag-init
loop-tag-init c = rw (c.into_iter-tag-iterator.ensures.into_iter_gives, c.iter-tag-items.ensures)

pub loop-tag-preserved : goal.loop-tag-preserved
loop-tag-preserved c =
    by_rows (noted_in c.args.operator c.loop-tag.self.entries) c.loop-tag.invariant
    (next_row c.loop-tag.tag-iterator c.next.new.self c.next.ensures.steps c.in-Some.is) (noted_first _ _ _ _ c.note_row.ensures)

pub returns : goal.returns
unfolding literals
returns c =
    sym (by_rows (noted_in c.args.operator c.loop-tag.self.entries) c.loop-tag.invariant
    (no_row_left c.loop-tag.tag-iterator c.next.new.self c.next.ensures.steps c.in-None.is) (none_noted _ _))
