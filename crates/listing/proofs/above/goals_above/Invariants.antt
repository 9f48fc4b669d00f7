-- The goals before place `at` are met (`Climbing`). Assumes nothing.
use Prim.Native.Nat.{◌+◌}
use Rattle.listing.proofs.Aboves.{Climbing}
use Rattle.listing.proofs.above.goals_above.Given as goal

abbrev pub invariant-loop-at : goal.invariant-loop-at
invariant-loop-at l = Climbing l.goals l.initial.goal (l.fn.place.0 + 1) l.goal l.above l.at
