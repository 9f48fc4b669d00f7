-- A row's literal is a true one, a false one, or none. Assumes nothing.
use mathlib.Core.Path.{sym}
use mathlib.Core.List.{[]}
use Rattle.hgn.specs.Meaning.{literals}
use Rattle.state.proofs.ByRow.{true_row, false_row, no_row}
use Rattle.state.proofs.literals.LiteralTags.literal.Goals as goal

pub returns-then-tag-self : goal.returns-then-tag-self
unfolding literals
returns-then-tag-self c = sym (true_row _ _ _ [] c.if-tag-self.true)

pub returns-then-tag-self-2 : goal.returns-then-tag-self-2
unfolding literals
returns-then-tag-self-2 c = sym (false_row _ _ _ [] c.if-tag-self.false c.if-tag-self-2.true)

pub returns-else-tag-self-2 : goal.returns-else-tag-self-2
unfolding literals
returns-else-tag-self-2 c = sym (no_row _ _ _ [] c.if-tag-self.false c.if-tag-self-2.false)
