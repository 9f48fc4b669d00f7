-- The facts that the loop leaves. Assumes nothing.
use Prim.Native.Nat.{◌-◌}
use native.Mathlib.Omega.{arith}
use mathlib.Core.Path.{refl}
use lib.ListN.{length-set}
use Rattle.sheet_index.proofs.Fills.{from_none, room_is, operators_left, open_left, from_open, from_node, from_other, from_all, opens, opens_none}
use Rattle.sheet_index.proofs.index.fill_tables.Goals as goal

pub loop-row-init : goal.loop-row-init
loop-row-init c table q e = rw e (from_none q)

pub overflow_sub-operator : goal.overflow_sub-operator
overflow_sub-operator c =
    open_left c.requires (c.loop-row.invariant _ c.requires refl) {k = c.loop-row.row - 1} (omega arith) c.tag-tag.ensures (opens c.tag-tag.result (omega arith) (omega arith))

pub overflow_add-tables-in-1 : goal.overflow_add-tables-in-1
overflow_add-tables-in-1 c = omega (arith, operators_left c.requires (c.loop-row.invariant _ c.requires refl), c.requires.room)

pub offset_bounds-tables-operator : goal.offset_bounds-tables-operator
offset_bounds-tables-operator c = omega (arith, operators_left c.requires (c.loop-row.invariant _ c.requires refl), c.requires.room)

pub bounds-tables-operator : goal.bounds-tables-operator
bounds-tables-operator c =
    let f = c.loop-row.invariant _ c.requires refl in
    omega (arith, operators_left c.requires f, room_is c.requires f, length-set c.loop-row.tables (c.loop-row.row - 1) c.loop-row.end)

pub loop-row-preserved-then-tag-lt3 : goal.loop-row-preserved-then-tag-lt3
loop-row-preserved-then-tag-lt3 c table q e =
    from_open q (c.loop-row.invariant table q e) (omega arith) c.tag-tag.ensures (opens c.tag-tag.result (omega arith) (omega arith))

pub loop-row-preserved-in-7 : goal.loop-row-preserved-in-7
loop-row-preserved-in-7 c table q e =
    from_node q (c.loop-row.invariant table q e) (omega arith) c.tag-tag.ensures
    (opens_none c.tag-tag.result (λ z. omega arith) (λ z. omega arith)) (omega arith)

pub loop-row-preserved-then-tag-lt1 : goal.loop-row-preserved-then-tag-lt1
loop-row-preserved-then-tag-lt1 c table q e =
    from_other q (c.loop-row.invariant table q e) (omega arith) c.tag-tag.ensures
    (opens_none c.tag-tag.result (λ z. omega arith) (λ z. omega arith)) (λ z. omega arith)

pub loop-row-preserved : goal.loop-row-preserved
loop-row-preserved c table q e =
    from_other q (c.loop-row.invariant table q e) (omega arith) c.tag-tag.ensures
    (opens_none c.tag-tag.result (λ z. omega arith) (λ z. omega arith)) (λ z. omega arith)

pub returns : goal.returns
returns c = from_all c.requires (c.loop-row.invariant _ c.requires refl) (omega arith)
