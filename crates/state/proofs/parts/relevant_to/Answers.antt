-- Relevant is helping alone. Assumes nothing.
use mathlib.Core.Path.{sym, ap, ◌∙◌}
use Rattle.hgn.specs.Relevance.{is_helping}
use Rattle.hgn.proofs.Logic.Relevance.{relevant_helping}
use Rattle.state.proofs.parts.relevant_to.Goals as goal

pub returns : goal.returns
returns c = c.is_helping.ensures ∙ ap is_helping c.relevance_to.ensures ∙ sym (relevant_helping _ _)
