-- The facts that the loop leaves. Assumes nothing.
use Prim.Native.Nat.{◌+◌}
use native.Mathlib.Omega.{arith}
use mathlib.Core.Path.{sym}
use lib.ListN.{length}
use Rattle.hgn.specs.Rows.{values_tagged}
use Rattle.sheet_index.specs.Index.{rows_in}
use Rattle.sheet_index.proofs.Columns.{next_row, no_row_left, by_rows, rows_few}
use Rattle.network.proofs.Afters.{counted_after, counted_other, counted_none, counted_few}
use Rattle.network.proofs.listed.count_afters.Goals as goal

pub loop-tag-init : goal.loop-tag-init
loop-tag-init c = rw (c.into_iter-tag-iterator.ensures.into_iter_gives, c.iter-tag-items.ensures) (omega arith)

-- No more are counted than there are rows.
pub overflow_add-found : goal.overflow_add-found
overflow_add-found c =
    let more = by_rows (λ rs. c.loop-tag.found + length (values_tagged 11 rs)) c.loop-tag.invariant
    (next_row c.loop-tag.tag-iterator c.next.new.self c.next.ensures.steps c.in-Some.is) (counted_after _ _ _ _ c.if-tag-eq-AFTER.true) in
    omega (arith, more, counted_few (rows_in c.args.node), rows_few c.args.node, c.ranges.node)

pub loop-tag-preserved-then-tag-eq-AFTER : goal.loop-tag-preserved-then-tag-eq-AFTER
loop-tag-preserved-then-tag-eq-AFTER c =
    by_rows (λ rs. c.loop-tag.found + length (values_tagged 11 rs)) c.loop-tag.invariant
    (next_row c.loop-tag.tag-iterator c.next.new.self c.next.ensures.steps c.in-Some.is) (counted_after _ _ _ _ c.if-tag-eq-AFTER.true)

pub loop-tag-preserved : goal.loop-tag-preserved
loop-tag-preserved c =
    by_rows (λ rs. c.loop-tag.found + length (values_tagged 11 rs)) c.loop-tag.invariant
    (next_row c.loop-tag.tag-iterator c.next.new.self c.next.ensures.steps c.in-Some.is) (counted_other _ _ _ _ c.if-tag-eq-AFTER.false)

pub returns : goal.returns
returns c =
    sym (by_rows (λ rs. c.loop-tag.found + length (values_tagged 11 rs)) c.loop-tag.invariant
    (no_row_left c.loop-tag.tag-iterator c.next.new.self c.next.ensures.steps c.in-None.is) (counted_none _))
