-- What each move asks, by its cases. Assumes nothing.
use mathlib.Core.Path.{ap, ◌∙◌}
use mathlib.Core.List.{List}
use Rattle.hgn.specs.Rows.{Row}
use Rattle.hgn.specs.Tag as Tag
use Rattle.hgn.specs.Meaning.{literals}
use Rattle.hgn.specs.State.{all_hold}
use Rattle.search_pruning.proofs.Asked.{ready_release, ready_action, ready_method}
use Rattle.search_pruning.proofs.rules.ready.Goals as goal

pub returns-in-Release : goal.returns-in-Release
returns-in-Release c = ready_release _ _ _ c.in-Release.is _ c.goal_holds.ensures

pub returns-in-Act : goal.returns-in-Act
returns-in-Act c = ready_action c.in-Act.is c.action_part-rows.ensures _ _ c.all_hold.ensures

pub returns-in-Use : goal.returns-in-Use
returns-in-Use c =
    let a = c.method_rows-rows.ensures _ c.requires.0 in
    ready_method _ _ _ c.in-Use.is _ _ a.needs
    (c.all_hold-in-Use.ensures ∙ ap (λ (rs : List Row). all_hold c.args.atoms.now (literals Tag.needs_true Tag.needs_false rs)) (c.of_shop-head.ensures.rows_are _))
