-- The table is filled for the shop. Assumes nothing.
use Prim.Native.Nat.{ℕ, ◌+◌}
use native.Mathlib.Omega.{arith}
use mathlib.Core.Path.{◌≡◌, ap₂}
use Rattle.hgn.specs.Questions.{passed}
use Rattle.hgn.specs.Shop.{action_count, method_count, check_shop, shop_rows}
use Rattle.hgn.proofs.Sheets.Checked.{shop_of_order, shop_actions, shop_methods, shop_counts}
use Rattle.sheet_index.proofs.Indexed.{shop_indexable}
use Rattle.replay.proofs.first.index_shop.Goals as goal

pub fill_tables-requires : goal.fill_tables-requires
unfolding shop_rows
fill_tables-requires c =
    let passes : check_shop c.args.shop.now ≡ passed = shop_of_order c.args.shop.now c.args.order.now c.requires.0 in
    let operators-are : c.of-sizes.result.actions + c.of-sizes.result.methods ≡ action_count c.args.shop.now + method_count c.args.shop.now = ap₂ (λ (x y : ℕ). x + y) c.of-sizes.ensures.actions c.of-sizes.ensures.methods in
    let p = passes in
    rw (c.layout_of-rows.ensures.0, operators-are)
    (shop_indexable c.args.shop.now p
    (omega (arith, shop_actions _ p, shop_methods _ p, (shop_counts _ p).0, (shop_counts _ p).1, c.requires.1)))

pub shape_of-tables : goal.shape_of-tables
unfolding shop_rows
shape_of-tables c = c.fill_tables.ensures.size

pub returns : goal.returns
unfolding shop_rows
returns c =
    let operators-are : c.of-sizes.result.actions + c.of-sizes.result.methods ≡ action_count c.args.shop.now + method_count c.args.shop.now = ap₂ (λ (x y : ℕ). x + y) c.of-sizes.ensures.actions c.of-sizes.ensures.methods in
    let filled = rw (c.layout_of-rows.ensures.0, operators-are) at c.fill_tables.ensures in
    record { checked = c.requires.0; ends_are = filled.ends_are; starts_are = filled.starts_are }
