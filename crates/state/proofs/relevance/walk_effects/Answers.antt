-- The facts that the loop leaves. Assumes nothing.
use mathlib.Core.Path.{sym, ap, ◌∙◌}
use Rattle.sheet_index.specs.Index.{rows_in}
use Rattle.sheet_index.proofs.Columns.{next_row, no_row_left, by_rows}
use Rattle.state.specs.Relevances.{relevance_of, wanted_in}
use Rattle.state.proofs.Relevances.{told_from, told_first, told_on, told_blocked, told_all}
use Rattle.state.proofs.relevance.walk_effects.Goals as goal

pub loop-tag-init : goal.loop-tag-init
loop-tag-init c = told_first _ _ _ ∙ rw (c.into_iter-tag-iterator.ensures.into_iter_gives, c.iter-tag-items.ensures)

pub returns-in-Blocked : goal.returns-in-Blocked
returns-in-Blocked c =
    ap relevance_of c.in-Blocked.is
    ∙ sym (by_rows (told_from (wanted_in (rows_in c.args.wanted)) c.args.signs (relevance_of c.loop-tag.told)) c.loop-tag.invariant
    (next_row c.loop-tag.tag-iterator c.next.new.self c.next.ensures.steps c.in-Some.is)
    (told_blocked (wanted_in (rows_in c.args.wanted)) _ _ _ _ c.row_meets.ensures c.followed_by-told.ensures (ap relevance_of c.in-Blocked.is)))

pub loop-tag-preserved : goal.loop-tag-preserved
loop-tag-preserved c =
    by_rows (told_from (wanted_in (rows_in c.args.wanted)) c.args.signs (relevance_of c.loop-tag.told)) c.loop-tag.invariant
    (next_row c.loop-tag.tag-iterator c.next.new.self c.next.ensures.steps c.in-Some.is)
    (told_on (wanted_in (rows_in c.args.wanted)) _ _ _ _ c.row_meets.ensures c.followed_by-told.ensures)

pub returns : goal.returns
returns c =
    sym (by_rows (told_from (wanted_in (rows_in c.args.wanted)) c.args.signs (relevance_of c.loop-tag.told)) c.loop-tag.invariant
    (no_row_left c.loop-tag.tag-iterator c.next.new.self c.next.ensures.steps c.in-None.is) (told_all (wanted_in (rows_in c.args.wanted)) _ _))
