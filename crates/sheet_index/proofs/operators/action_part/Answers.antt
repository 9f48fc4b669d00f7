-- The action's rows stand from behind its start up to the next (`action_there`). Assumes nothing.
use Prim.Native.Nat.{◌+◌, ◌-◌}
use native.Mathlib.Omega.{arith}
use Rattle.hgn.specs.Rows.{most_rows}
use Rattle.sheet_index.proofs.Tables.{indexable}
use Rattle.sheet_index.proofs.OperatorRows.{action_in_table, start_below, action_there}
use Rattle.sheet_index.proofs.operators.action_part.Goals as goal

pub bounds-tables-at : goal.bounds-tables-at
bounds-tables-at c = let p = c.requires in omega (arith, action_in_table p.1 _ p.2 p.3)

pub overflow_add-tables : goal.overflow_add-tables
overflow_add-tables c =
    let p = c.requires in
    omega (arith, start_below p.1 _ p.2 p.3 (most_rows + c.args.action - 1) (omega arith), (indexable p.1).few)

pub bounds-tables-at-2 : goal.bounds-tables-at-2
bounds-tables-at-2 c = let p = c.requires in action_in_table p.1 _ p.2 p.3

pub returns : goal.returns
returns c = let p = c.requires in action_there p.1 _ p.2 p.3 _ (omega arith) c.of_shop.ensures
