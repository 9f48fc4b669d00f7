-- An action that no waiting goal is for takes the only method that brings one in. Assumes nothing.
use native.Mathlib.Omega.{arith}
use mathlib.Core.Path.{ap, sym, subst, ◌∙◌}
use lib.ListN.{length, length-map}
use Rattle.hgn.specs.Replay.{rules_of}
use Rattle.hgn.proofs.Sheets.Checked.{shop_counts, shop_actions, shop_methods}
use Rattle.sheet_index.specs.Tables.{node_at}
use Rattle.sheet_index.proofs.Tables.{shop_passes}
use Rattle.sheet_rows.specs.declared.position.Sheet.TheVariants as Of
use Rattle.search_theory.specs.Needed.{Needed}
use Rattle.search_bound.proofs.NeededMoves.{operator_below, method_added}
use Rattle.search_bound.proofs.Brings.{method_needed}
use Rattle.search_bound.proofs.least.add_method.Goals as goal

pub overflow_add-actions : goal.overflow_add-actions
overflow_add-actions c =
    let p = shop_passes c.requires in omega (arith, shop_counts _ p, shop_actions _ p, shop_methods _ p, c.in-Some.ensures.0)

pub returns-in-Some : goal.returns-in-Some
returns-in-Some c t n h =
    let k = c.of-actions.ensures.actions in
    let p = shop_counts _ (shop_passes c.requires) in
    let a = c.method_rows-rows.ensures _ c.requires in
    let l = (c.nodes_between-nodes.ensures a.bs a.walk).number in
    let q = ap length (sym a.nodes) ∙ length-map a.bs (node_at c.args.shop.now c.args.order.now Of.Shop) in
    method_added _ _ _ _ _ (omega (arith, k, p)) (omega (arith, p, c.in-Some.ensures.0)) (omega (arith, l, q)) c.add.ensures
    (method_needed _ _ _ _ c.wanted_by.ensures c.if-wanted_by.false c.in-Some.ensures.1
    (subst (Needed (rules_of c.args.shop.now) _) (operator_below _ _ (omega (arith, p, k, c.if-actions-operator.false))) n)) h
