-- Assumes nothing.
use mathlib.Core.Path.{◌∙◌}
use lib.Dec.{ltb}
use borrow.Author.Tests.{ltb-true, ltb-false}
use Rattle.sheet_index.proofs.Spans.{by_test}
use Rattle.network.proofs.Afters.{last_listed, last_unlisted, row_listed}
use Rattle.network.proofs.listed.after_node.Goals as goal

pub returns-then-goal : goal.returns-then-goal
returns-then-goal c =
    by_test (ltb c.args.number c.args.goal.number)
    (λ t. rw t at c.from.ensures ∙ last_listed _ _ _ _ c.if-goal.true (ltb-true _ _ t))
    (λ t. rw t at c.from.ensures ∙ last_unlisted _ _ _ _ c.if-goal.true (ltb-false _ _ t))

pub returns : goal.returns
returns c = c.occurrences_of.ensures ∙ row_listed _ _ _ _ _ c.if-goal.false c.rows.ensures.rows
