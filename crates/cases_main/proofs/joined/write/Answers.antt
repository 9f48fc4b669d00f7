-- The room is the one that the call answers with; writing the answer only reads it. Assumes nothing.
use mathlib.Core.Path.{ap}
use mathlib.Core.List.{List}
use Prim.Native.Nat.{ℕ}
use Rattle.hgn.specs.Lent.{Lent}
use Rattle.cases_main.proofs.joined.write.Goals as goal

pub returns : goal.returns
returns g c = ap (λ (r : Lent (List ℕ)). r.room) c.join-answer.ensures
