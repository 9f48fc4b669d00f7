-- The refusal, with this atom. Assumes nothing.
use mathlib.Core.Path.{ap}
use Rattle.hgn.specs.Questions as Questions
use Rattle.step.proofs.failure.Failure.unmet.Goals as goal

pub returns : goal.returns
returns c = ap {B = Questions.Failure} (λ (r : Questions.Refusal). record { refusal = r; atom = c.args.atom.0 }) c.by.ensures
