-- What is written is the check's answer. Assumes nothing.
use mathlib.Core.Path.{ap, ◌∙◌}
use Rattle.capi.specs.Words.{refusal_words}
use Rattle.capi.proofs.hgn_check_order.Goals as goal

pub returns : goal.returns
returns c = c.passed_words.ensures ∙ ap refusal_words c.check_order.ensures
