-- The facts that the loop leaves. Assumes nothing.
use Rattle.sheet_index.proofs.Columns.{next_row}
use Rattle.search_bound.proofs.Wants.{row_here, rows_after}
use Rattle.search_bound.proofs.least.add_rows.Goals as goal

pub loop-tag-init : goal.loop-tag-init
loop-tag-init c = (λ x m. rw (c.into_iter-tag-iterator.ensures.into_iter_gives, c.iter-tag-items.ensures) at m, λ shop P is e o h k. k)

pub loop-tag-preserved : goal.loop-tag-preserved
loop-tag-preserved c =
    let p = next_row c.loop-tag.tag-iterator c.next.new.self c.next.ensures.steps c.in-Some.is in
    let i = c.loop-tag.invariant in (
      λ x m. i.0 x (rows_after _ _ p x m),
      λ shop P is e o h k. c.add_row.ensures shop P is e o (λ x m. h x (i.0 x (row_here _ _ p x m))) (i.1 shop P is e o h k),
    )

pub returns : goal.returns
returns c = c.loop-tag.invariant.1
