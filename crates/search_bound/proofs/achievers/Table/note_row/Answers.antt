-- The row's literal is noted, if it has one. Assumes nothing.
use mathlib.Core.Path.{sym, ap, ◌∙◌}
use mathlib.Core.List.{List}
use Rattle.hgn.specs.Meaning.{Literal}
use Rattle.search_bound.specs.Tables.{noted}
use Rattle.search_bound.proofs.OnlyAchieved.{none_noted}
use Rattle.search_bound.proofs.achievers.Table.note_row.Goals as goal

pub returns-in-Some : goal.returns-in-Some
returns-in-Some c = c.note.ensures ∙ ap (λ (ls : List Literal). noted c.args.operator ls c.args.self.now.entries) c.in-Some.ensures

pub returns-in_default : goal.returns-in_default
returns-in_default c =
    sym (none_noted _ _) ∙ ap (λ (ls : List Literal). noted c.args.operator ls c.args.self.now.entries) c.in_default.ensures
