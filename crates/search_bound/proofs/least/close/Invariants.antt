-- Every operator that is gathered is needed. Assumes nothing.
use Prim.Native.Nat.{◌-◌}
use Rattle.hgn.specs.Replay.{rules_of}
use Rattle.step.specs.Taking.{problem_with}
use Rattle.search_bound.specs.NeededMoves.{most_needed, Holds}
use Rattle.search_bound.proofs.least.close.Given as goal

abbrev pub invariant-loop-at : goal.invariant-loop-at
invariant-loop-at l = Holds (rules_of l.shop) (problem_with l.shop l.order l.atoms l.goals) l.moves

abbrev pub decreases-loop-at : goal.decreases-loop-at
decreases-loop-at l = most_needed - l.at
