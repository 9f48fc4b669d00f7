-- The refusal gets the place, the atom stays. Assumes nothing.
use mathlib.Core.Path.{ap}
use Rattle.hgn.specs.Questions as Questions
use Rattle.step.specs.Failures.{atom_of}
use Rattle.step.proofs.failure.Failure.at.Goals as goal

pub returns : goal.returns
returns c = ap {B = Questions.Failure} (λ (r : Questions.Refusal). record { refusal = r; atom = atom_of c.args.self.atom }) c.at.ensures
