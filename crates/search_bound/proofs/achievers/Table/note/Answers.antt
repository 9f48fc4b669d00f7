-- One entry of the table is set. Assumes nothing.
use mathlib.Core.Path.{◌∙◌}
use Rattle.search_bound.proofs.OnlyAchieved.{one_noted, past_noted, first_alone, then_many}
use Rattle.search_bound.proofs.achievers.Table.note.Goals as goal
use Rattle.search_bound.proofs.achievers.Table.note.Goals.{in-None, in_default}

pub returns-then-literal-ge-MOST_ATOMS : goal.returns-then-literal-ge-MOST_ATOMS
returns-then-literal-ge-MOST_ATOMS c = past_noted _ _ _ c.if-literal-ge-MOST_ATOMS.true

pub returns : goal.returns
returns c =
    one_noted _ _ _ c.if-literal-ge-MOST_ATOMS.false c.index_of-at.ensures.0
    (elim c.match-self-at.branch [
      | in-None w ↦ w.self-is ∙ first_alone _ _ w.in-None.is
      | in_default w ↦ w.self-is ∙ then_many _ _ w.in_default.not-None
    ])
