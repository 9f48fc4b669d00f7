-- The questions are the definition's, in its order. Assumes nothing.
use native.Mathlib.Omega.{arith}
use mathlib.Core.Path.{sym, ap, ◌∙◌}
use Rattle.hgn.specs.Questions.{answered}
use Rattle.hgn.specs.Order.{order_rows}
use Rattle.sheet_rows.proofs.Laws as Laws
use Rattle.sheet_check.proofs.Checks.{order_short, order_sizes_no, order_length_no, order_rest, order_row_no, order_rows_few}
use Rattle.sheet_check.proofs.check.ask_order.Goals as goal

pub returns-then-order-lt-SIZES : goal.returns-then-order-lt-SIZES
returns-then-order-lt-SIZES c = c.by.ensures ∙ ap answered (sym (order_short _ _ c.if-order-lt-SIZES.true))

pub returns-then-not-order_in_range : goal.returns-then-not-order_in_range
returns-then-not-order_in_range c =
    let no = Laws.told (c.order_in_range.ensures _ _ c.of.ensures c.of-sizes.ensures) c.if-not-order_in_range.true in
    c.by-then-not-order_in_range.ensures ∙ ap answered (sym (order_sizes_no _ _ c.if-order-lt-SIZES.false no))

pub returns-then-order-layout : goal.returns-then-order-layout
returns-then-order-layout c =
    let yes = Laws.told (c.order_in_range.ensures _ _ c.of.ensures c.of-sizes.ensures) c.if-not-order_in_range.false in
    c.by-then-order-layout.ensures ∙ ap answered (sym (order_length_no _ _ c.if-order-lt-SIZES.false yes (λ e. c.if-order-layout.true (omega arith))))

pub scan-requires : goal.scan-requires
scan-requires c =
    omega (arith, order_rows_few _ _ (Laws.told (c.order_in_range.ensures _ _ c.of.ensures c.of-sizes.ensures) c.if-not-order_in_range.false))

pub returns-in_err-scan : goal.returns-in_err-scan
unfolding order_rows
returns-in_err-scan c =
    let s = c.of-sizes.ensures in
    Laws.handed_on _ _ c.from_residual.ensures.1
    ∙ ap answered (sym (order_row_no _ _ c.if-order-lt-SIZES.false (Laws.told (c.order_in_range.ensures _ _ c.of.ensures s) c.if-not-order_in_range.false) (omega arith)
    (rw (s.atoms, c.layout-layout.ensures.1, s.rows, c.layout-layout.ensures.0) at c.in_err-scan.ensures)))

pub returns : goal.returns
unfolding order_rows
returns c =
    let s = c.of-sizes.ensures in
    c.order_end.ensures _ (rw (← s.atoms, ← s.rows, ← c.layout-layout.ensures.1, ← c.layout-layout.ensures.0) c.in_ok-scan.ensures) s
    ∙ ap answered (sym (order_rest _ _ c.if-order-lt-SIZES.false (Laws.told (c.order_in_range.ensures _ _ c.of.ensures s) c.if-not-order_in_range.false) (omega arith)))
