-- The room keeps its length, and no more numbers are counted than it has words. Assumes nothing.
use Prim.Native.Nat.{◌≤◌}
use mathlib.Core.Path.{◌≡◌}
use lib.ListN.{length}
use Rattle.cases_main.proofs.sheet.write.Given as goal

abbrev pub invariant-loop : goal.invariant-loop
invariant-loop l = (length l.room ≡ length l.initial.room) × (l.pen.at ≤ length l.room)
