-- The goals passed are lowered, and those ahead are as they were. Assumes nothing.
use mathlib.Core.Path.{◌≡◌}
use mathlib.Core.List.{◌++◌, map}
use lib.ListN.{take, drop}
use Rattle.network.specs.Pending.{lowered}
use Rattle.network.proofs.listed.lower_counts.Given as goal

abbrev pub invariant-loop-later : goal.invariant-loop-later
invariant-loop-later l = l.goals ≡ map (lowered l.shop l.order l.leaving) (take l.later-index l.initial.goals) ++ drop l.later-index l.initial.goals
