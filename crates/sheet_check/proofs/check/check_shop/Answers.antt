-- The questions are the definition's, in its order. Assumes nothing.
use native.Mathlib.Omega.{arith}
use mathlib.Core.Path.{sym, ap, ◌∙◌}
use Rattle.hgn.specs.Questions.{answered}
use Rattle.hgn.specs.Shop.{shop_rows}
use Rattle.sheet_rows.proofs.Laws as Laws
use Rattle.sheet_check.proofs.Checks.{shop_short, shop_sizes_no, shop_length_no, shop_rest, shop_row_no, shop_rows_few}
use Rattle.sheet_check.proofs.check.check_shop.Goals as goal

pub returns-then-shop-lt-SIZES : goal.returns-then-shop-lt-SIZES
returns-then-shop-lt-SIZES c = c.by.ensures ∙ ap answered (sym (shop_short _ c.if-shop-lt-SIZES.true))

pub returns-then-not-shop_in_range : goal.returns-then-not-shop_in_range
returns-then-not-shop_in_range c =
    let no = Laws.told (c.shop_in_range.ensures _ c.of-sizes.ensures) c.if-not-shop_in_range.true in
    c.by-then-not-shop_in_range.ensures ∙ ap answered (sym (shop_sizes_no _ c.if-shop-lt-SIZES.false no))

pub returns-then-shop-layout : goal.returns-then-shop-layout
returns-then-shop-layout c =
    let yes = Laws.told (c.shop_in_range.ensures _ c.of-sizes.ensures) c.if-not-shop_in_range.false in
    c.by-then-shop-layout.ensures ∙ ap answered (sym (shop_length_no _ c.if-shop-lt-SIZES.false yes (λ e. c.if-shop-layout.true (omega arith))))

pub scan-requires : goal.scan-requires
scan-requires c =
    omega (arith, shop_rows_few _ (Laws.told (c.shop_in_range.ensures _ c.of-sizes.ensures) c.if-not-shop_in_range.false))

pub returns-in_err-scan : goal.returns-in_err-scan
unfolding shop_rows
returns-in_err-scan c =
    let s = c.of-sizes.ensures in
    Laws.handed_on _ _ c.from_residual.ensures.1
    ∙ ap answered (sym (shop_row_no _ c.if-shop-lt-SIZES.false (Laws.told (c.shop_in_range.ensures _ s) c.if-not-shop_in_range.false) (omega arith)
    (rw (s.atoms, c.layout-layout.ensures.1, s.rows, c.layout-layout.ensures.0) at c.in_err-scan.ensures)))

pub returns : goal.returns
unfolding shop_rows
returns c =
    let s = c.of-sizes.ensures in
    c.shop_end.ensures _ (rw (← s.atoms, ← s.rows, ← c.layout-layout.ensures.1, ← c.layout-layout.ensures.0) c.in_ok-scan.ensures) s
    ∙ ap answered (sym (shop_rest _ c.if-shop-lt-SIZES.false (Laws.told (c.shop_in_range.ensures _ s) c.if-not-shop_in_range.false) (omega arith)))
