-- The facts that the loop leaves. Assumes nothing.
use Prim.Native.Nat.{◌+◌}
use native.Mathlib.Omega.{arith}
use mathlib.Core.Path.{sym}
use Rattle.hgn.specs.Rows.{values_tagged}
use Rattle.sheet_index.specs.Index.{rows_in}
use Rattle.sheet_index.proofs.Columns.{next_row, no_row_left, by_rows, rows_few}
use Rattle.network.specs.Pending.{occurrences}
use Rattle.network.proofs.Afters.{found_after, found_other_value, found_other, found_none, found_few}
use Rattle.network.proofs.listed.occurrences_of.Goals as goal
use Rattle.network.proofs.listed.occurrences_of.Goals.{else-tag-eq-AFTER-via-then-tag-eq-AFTER+else-value-number, else-tag-eq-AFTER-via-else-tag-eq-AFTER}

pub loop-tag-init : goal.loop-tag-init
loop-tag-init c = rw (c.into_iter-tag-iterator.ensures.into_iter_gives, c.iter-tag-items.ensures) (omega arith)

-- No more are found than there are rows.
pub overflow_add-found : goal.overflow_add-found
overflow_add-found c =
    let more = by_rows (λ rs. c.loop-tag.found + occurrences c.args.number (values_tagged 11 rs)) c.loop-tag.invariant
    (next_row c.loop-tag.tag-iterator c.next.new.self c.next.ensures.steps c.in-Some.is)
    (found_after _ _ _ _ _ c.if-tag-eq-AFTER.true c.if-value-number.true) in
    omega (arith, more, found_few c.args.number (rows_in c.args.node), rows_few c.args.node, c.ranges.node)

pub loop-tag-preserved-then-value-number : goal.loop-tag-preserved-then-value-number
loop-tag-preserved-then-value-number c =
    by_rows (λ rs. c.loop-tag.found + occurrences c.args.number (values_tagged 11 rs)) c.loop-tag.invariant
    (next_row c.loop-tag.tag-iterator c.next.new.self c.next.ensures.steps c.in-Some.is)
    (found_after _ _ _ _ _ c.if-tag-eq-AFTER.true c.if-value-number.true)

pub loop-tag-preserved : goal.loop-tag-preserved
loop-tag-preserved c =
    elim c.else-tag-eq-AFTER.branch [
      | else-tag-eq-AFTER-via-then-tag-eq-AFTER+else-value-number w ↦
          by_rows (λ rs. c.loop-tag.found + occurrences c.args.number (values_tagged 11 rs)) c.loop-tag.invariant
          (next_row c.loop-tag.tag-iterator c.next.new.self c.next.ensures.steps c.in-Some.is)
          (found_other_value _ _ _ _ _ w.if-tag-eq-AFTER.true w.if-value-number.false)
      | else-tag-eq-AFTER-via-else-tag-eq-AFTER w ↦
          by_rows (λ rs. c.loop-tag.found + occurrences c.args.number (values_tagged 11 rs)) c.loop-tag.invariant
          (next_row c.loop-tag.tag-iterator c.next.new.self c.next.ensures.steps c.in-Some.is) (found_other _ _ _ _ _ w.if-tag-eq-AFTER.false)
    ]

pub returns : goal.returns
returns c =
    sym (by_rows (λ rs. c.loop-tag.found + occurrences c.args.number (values_tagged 11 rs)) c.loop-tag.invariant
    (no_row_left c.loop-tag.tag-iterator c.next.new.self c.next.ensures.steps c.in-None.is) (found_none _ _))
