-- Nothing is gathered. Assumes nothing.
use Prim.Native.Nat.{ℕ}
use mathlib.Core.Path.{refl}
use mathlib.Core.Bool.{Bool, false}
use lib.ListN.{length-replicate}
use Rattle.search_bound.specs.NeededMoves.{most_needed}
use Rattle.search_bound.proofs.NeededMoves.{nothing}
use Rattle.search_bound.proofs.needed_moves.NeededMoves.new.Goals as goal

pub returns : goal.returns
returns c shop P = nothing _ _ _ (length-replicate {A = ℕ} most_needed 0) (length-replicate {A = Bool} most_needed false) refl refl refl
