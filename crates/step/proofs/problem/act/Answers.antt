-- The action's effects are found, and set one after the other. Assumes nothing.
use mathlib.Core.Path.{ap, ◌∙◌}
use mathlib.Core.List.{List}
use Rattle.hgn.specs.Meaning.{Literal}
use Rattle.sheet_index.proofs.OperatorRows.{action_rises}
use Rattle.state.specs.Effects.{set_each}
use Rattle.step.proofs.Changes.{changes}
use Rattle.step.proofs.problem.act.Goals as goal

pub action_part-rows-requires : goal.action_part-rows-requires
action_part-rows-requires c = let p = c.requires in (_, p.indexed, p.le_action.0, p.le_action.1)

pub returns : goal.returns
returns c =
    c.set_each.ensures
    ∙ ap (λ (ls : List Literal). set_each ls c.args.atoms.now) c.action_part-rows.ensures.effects
    ∙ changes _ (action_rises c.requires.indexed _ c.requires.le_action.0 c.requires.le_action.1) _
