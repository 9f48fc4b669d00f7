-- The room is the one that the call answers with; writing the answer only reads it. Assumes nothing.
use mathlib.Core.Path.{ap}
use Rattle.hgn.specs.Replay.{Replayed}
use Rattle.cases_main.proofs.replayed.write.Goals as goal

pub returns : goal.returns
returns g c = ap (λ (r : Replayed). r.room) c.replay-answer.ensures
