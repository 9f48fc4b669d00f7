-- To close the open method changes no count. Assumes nothing.
use mathlib.Core.Path.{sym, subst}
use native.Mathlib.Omega.{arith}
use Rattle.sheet_check.specs.PartCounts.{Small}
use Rattle.sheet_check.proofs.Counts.{each_closed}
use Rattle.sheet_check.proofs.part_counts.PartCounts.count.Goals as goal

pub overflow_add-self : goal.overflow_add-self
overflow_add-self c =
    let small = subst Small (sym c.closed.ensures) (each_closed _ _ c.requires) in
    omega arith

pub overflow_add-self-in-2 : goal.overflow_add-self-in-2
overflow_add-self-in-2 c =
    let small = subst Small (sym c.closed-in-2.ensures) (each_closed _ _ c.requires) in
    omega arith
