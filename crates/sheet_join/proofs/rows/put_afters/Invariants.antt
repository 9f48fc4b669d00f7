-- Before each 11 row those of the later goals are left to put. Assumes nothing.
use Prim.Native.Nat.{◌+◌, ◌-◌}
use mathlib.Core.List.{map}
use Rattle.hgn.specs.Lists.{range}
use Rattle.hgn.specs.Tag as Tag
use Rattle.hgn.specs.Rows.{row}
use Rattle.sheet_join.proofs.Putting.{Left}
use Rattle.sheet_join.proofs.rows.put_afters.Given as goal

abbrev pub invariant-loop-goal : goal.invariant-loop-goal
invariant-loop-goal l =
    Left l.into.sizes l.into.rows l.at (map (row Tag.after) (range 0 l.before)) l.initial.room (l.at + l.goal) (map (row Tag.after) (range l.goal (l.before - l.goal))) l.room
