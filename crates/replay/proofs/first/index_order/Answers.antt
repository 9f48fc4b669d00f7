-- The table is filled for the order. Assumes nothing.
use native.Mathlib.Omega.{arith}
use Rattle.hgn.specs.Order.{order_rows}
use Rattle.sheet_index.proofs.Indexed.{order_indexable}
use Rattle.replay.proofs.first.index_order.Goals as goal

pub fill_tables-requires : goal.fill_tables-requires
unfolding order_rows
fill_tables-requires c = rw c.layout_of-rows.ensures.0 (order_indexable c.args.shop.now c.args.order.now c.requires.0 (omega (arith, c.requires.1)))

pub shape_of-tables : goal.shape_of-tables
unfolding order_rows
shape_of-tables c = c.fill_tables.ensures.size

pub returns : goal.returns
unfolding order_rows
returns c =
    let filled = rw c.layout_of-rows.ensures.0 at c.fill_tables.ensures in
    (record { checked = c.requires.0; ends_are = filled.ends_are }, c.fill_tables.ensures.size)
