-- The first row of the action is read (`cost_read`). Assumes nothing.
use Prim.Native.Nat.{◌+◌, ◌-◌}
use native.Mathlib.Omega.{arith}
use mathlib.Core.Path.{◌∙◌}
use Rattle.hgn.specs.Rows.{most_rows}
use Rattle.sheet_index.proofs.Tables.{indexable}
use Rattle.sheet_index.proofs.OperatorRows.{action_in_table, start_below, cost_read}
use Rattle.sheet_index.proofs.operators.action_cost.Goals as goal

pub bounds-tables-at : goal.bounds-tables-at
bounds-tables-at c = let p = c.requires in omega (arith, action_in_table p.1 _ p.2 p.3)

pub value-requires : goal.value-requires
value-requires c =
    let p = c.requires in
    let is = c.layout_of.ensures.0 in
    (rw is (start_below p.1 _ p.2 p.3 (most_rows + c.args.action - 1) (omega arith)), rw is (indexable p.1).fits)

pub returns : goal.returns
returns c =
    let p = c.requires in
    rw c.layout_of.ensures.0 at c.value.ensures ∙ cost_read p.1 _ p.2 p.3 _ (omega arith)
