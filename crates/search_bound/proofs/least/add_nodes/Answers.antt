-- The facts that the loop leaves. Assumes nothing.
use native.Mathlib.Omega.{arith}
use mathlib.Core.Path.{◌∙◌, sym, subst}
use Rattle.hgn.specs.Replay.{rules_of}
use Rattle.hgn.proofs.Sheets.Checked.{shop_counts}
use Rattle.sheet_index.proofs.Tables.{shop_passes}
use Rattle.sheet_index.proofs.NodeWalks.{ahead}
use Rattle.search_theory.specs.Needed.{Needed}
use Rattle.search_bound.proofs.NeededMoves.{operator_method}
use Rattle.search_bound.proofs.Brings.{nodes_all, nodes_next, node_here, node_wanted}
use Rattle.search_bound.proofs.least.add_nodes.Goals as goal

pub loop-row-init : goal.loop-row-init
loop-row-init c = (nodes_all (c.method_rows-rows.ensures _ c.requires.indexed), λ P is n h. h)

pub loop-row-smaller : goal.loop-row-smaller
loop-row-smaller c = let f = ahead c.loop-row-test.true c.loop-row.invariant.0.walk in omega (arith, f.grows, f.below)

pub loop-row-preserved : goal.loop-row-preserved
loop-row-preserved c =
    let i = c.loop-row.invariant in (
      nodes_next i.0 c.loop-row-test.true,
      λ P is n h.
          c.add_goal.ensures c.args.shop.now P is ((shop_counts _ (shop_passes c.requires.indexed)).0 ∙ sym c.of-actions.ensures.actions) c.requires.achievers
          (rw c.of_shop-node.ensures (node_wanted _ P _ _ n (node_here i.0 c.loop-row-test.true)))
          (i.1 P is n h),
    )

pub returns : goal.returns
returns c P is n h =
    let a = shop_counts _ (shop_passes c.requires.indexed) in
    c.loop-row.invariant.1 P is
    (subst (Needed (rules_of c.args.shop.now) P) (operator_method _ _ _ (omega (arith, a, c.if-operator-actions.false, c.of-actions.ensures.actions))) n) h
