-- `replayed::write_state` is safe and ends: the atoms that were passed are no more than there are, and one. Assumes nothing.
use Prim.Native.Nat.{suc, ◌-◌, ◌≤◌}
use Rattle.hgn.specs.State.{most_atoms}
use Rattle.cases_main.proofs.replayed.write_state.Given as goal

abbrev pub invariant-loop-at : goal.invariant-loop-at
invariant-loop-at g l = l.at ≤ suc most_atoms

abbrev pub decreases-loop-at : goal.decreases-loop-at
decreases-loop-at g l = suc most_atoms - l.at
