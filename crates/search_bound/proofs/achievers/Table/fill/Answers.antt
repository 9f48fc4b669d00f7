-- The facts that the loop leaves. Assumes nothing.
use native.Mathlib.Omega.{arith}
use Rattle.hgn.proofs.Sheets.Checked.{shop_actions, shop_counts}
use Rattle.sheet_index.proofs.Tables.{shop_passes}
use Rattle.search_bound.proofs.OnlyAchieved.{achievers_next, achievers_all}
use Rattle.search_bound.proofs.achievers.Table.fill.Goals as goal

-- An action's operator fits into a byte, since a shop sheet has at most 255 actions.
pub overflow_cast-operator : goal.overflow_cast-operator
overflow_cast-operator c =
    let shop = c.args.shop.now in
    let passes = shop_passes c.requires in
    omega (arith, (shop_counts shop passes).0, shop_actions shop passes)

pub loop-operator-preserved : goal.loop-operator-preserved
loop-operator-preserved c =
    achievers_next c.requires c.loop-operator.invariant c.action_part-effects.ensures c.note_effects.ensures

pub returns : goal.returns
returns c = achievers_all c.requires c.loop-operator.invariant (omega arith)
