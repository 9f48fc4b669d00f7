-- The refusal, with no atom. Assumes nothing.
use mathlib.Core.Path.{ap}
use Rattle.hgn.specs.Questions.{without_atom}
use Rattle.step.proofs.failure.Failure.by.Goals as goal

pub returns : goal.returns
returns c = ap without_atom c.by.ensures
