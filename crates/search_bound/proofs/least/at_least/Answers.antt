-- A trace has a step for each waiting goal and those of the needed moves, unless none is accepted. Assumes nothing.
use native.Mathlib.Omega.{arith}
use mathlib.Core.Path.{sym, ◌∙◌}
use Rattle.hgn.proofs.Sheets.Checked.{shop_counts}
use Rattle.sheet_index.proofs.Tables.{shop_passes}
use Rattle.network.proofs.WaitingGoals.{list_length}
use Rattle.search_bound.proofs.NeededMoves.{least_found, least_none}
use Rattle.search_bound.proofs.least.at_least.Goals as goal

pub close-requires : goal.close-requires
close-requires c = record {
  indexed = (c.requires.0, c.requires.1);
  within =
      c.add_goals.ensures _ ((shop_counts _ (shop_passes c.requires.0)).0 ∙ sym c.of-actions.ensures.actions) c.requires.1 (c.new-moves.ensures _ _);
}

pub returns-then-is_hopeless : goal.returns-then-is_hopeless
returns-then-is_hopeless c k b = least_none c.close.ensures (sym c.is_hopeless.ensures ∙ c.if-is_hopeless.true) k

pub returns-else-is_hopeless : goal.returns-else-is_hopeless
returns-else-is_hopeless c k b = least_found c.close.ensures c.len.result k (c.len.ensures ∙ sym (list_length _ _ c.args.goals.now)) (omega arith)
