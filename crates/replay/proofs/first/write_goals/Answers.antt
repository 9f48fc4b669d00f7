-- The nodes of the order, walked along its table (`Firsts`), are all that waits. Assumes nothing.
use Prim.Native.Nat.{ℕ}
use native.Mathlib.Omega.{arith}
use mathlib.Core.Path.{sym, subst, ◌∙◌}
use Rattle.hgn.proofs.Sheets.Checked.{order_count, order_goals}
use Rattle.sheet_index.specs.Tables.{Walk}
use Rattle.sheet_check.proofs.Orders.{order_few}
use Rattle.replay.proofs.Firsts.{GoalsAt, goals_read, goals_begun}
use Rattle.replay.proofs.first.write_goals.Goals as goal

pub begin-requires : goal.begin-requires
begin-requires c =
    let found : GoalsAt c.args.shop.now c.args.order.now c.args.tables.now c.first_node.result.0 =
    subst (GoalsAt c.args.shop.now c.args.order.now c.args.tables.now) (sym c.first_node.ensures)
    (goals_read c.requires) in
    let walk : Walk c.args.tables.now c.of-sizes.result.rows c.first_node.result.0 found.bs =
    subst (λ (e : ℕ). Walk c.args.tables.now e c.first_node.result.0 found.bs) (sym c.of-sizes.ensures.rows) found.walk in
    let k = c.requires.checked in
    record {
      few = (
        omega (arith, c.of-sizes.ensures.goals, order_count c.args.shop.now c.args.order.now k, order_goals c.args.shop.now c.args.order.now k),
        omega (arith, c.of-sizes.ensures.rows, order_few c.args.shop.now c.args.order.now k),
      );
      walk = (found.bs, walk, c.of-sizes.ensures.goals ∙ found.count);
    }

pub returns : goal.returns
returns c =
    let found : GoalsAt c.args.shop.now c.args.order.now c.args.tables.now c.first_node.result.0 =
    subst (GoalsAt c.args.shop.now c.args.order.now c.args.tables.now) (sym c.first_node.ensures)
    (goals_read c.requires) in
    let walk : Walk c.args.tables.now c.of-sizes.result.rows c.first_node.result.0 found.bs =
    subst (λ (e : ℕ). Walk c.args.tables.now e c.first_node.result.0 found.bs) (sym c.of-sizes.ensures.rows) found.walk in
    goals_begun c.requires _ found _ _ (c.begin.ensures found.bs walk)
