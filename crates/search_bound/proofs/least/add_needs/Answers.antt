-- The needs stand in the rows of the operator. Assumes nothing.
use mathlib.Core.Path.{◌∙◌, sym, subst}
use mathlib.Core.List.{List}
use Rattle.hgn.specs.Rows.{Row}
use Rattle.hgn.specs.Tag as Tag
use Rattle.hgn.specs.Meaning.{literals}
use Rattle.hgn.specs.Replay.{rules_of}
use Rattle.hgn.proofs.Sheets.Checked.{shop_counts}
use Rattle.sheet_index.proofs.Tables.{shop_passes}
use Rattle.search_bound.specs.NeededMoves.{WantedAll}
use Rattle.search_bound.proofs.Wants.{operator_wanted}
use Rattle.search_bound.proofs.least.add_needs.Goals as goal

pub returns : goal.returns
returns c P is n k =
    c.add_rows.ensures _ P is ((shop_counts _ (shop_passes c.requires.indexed)).0 ∙ sym c.of-actions.ensures.actions) c.requires.achievers
    (subst (λ (rs : List Row). WantedAll (literals Tag.needs_true Tag.needs_false rs) (rules_of c.args.shop.now) P) (sym c.rows-rows.ensures.rows)
    (operator_wanted c.requires.indexed _ c.requires.known P _ (c.operator_rows.ensures _ _ c.requires.indexed c.requires.known) n))
    k
