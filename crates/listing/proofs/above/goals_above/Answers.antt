-- The facts that the loop leaves. Assumes nothing.
use Prim.Native.Nat.{◌<◌}
use native.Mathlib.Omega.{arith}
use mathlib.Core.Path.{sym, ◌∙◌}
use Rattle.network.specs.Goals.{count_in}
use Rattle.listing.proofs.Aboves.{climbing_start, climbing_found, climbing_passed, climbed}
use Rattle.listing.proofs.above.goals_above.Goals as goal
use Rattle.listing.proofs.above.goals_above.Goals.{then-is_parent, else-is_parent}

pub loop-at-init : goal.loop-at-init
loop-at-init c = climbing_start _ _ _

pub overflow_add-above : goal.overflow_add-above
overflow_add-above c = omega (arith, c.loop-at.invariant.few, c.args.goals.now.few, c.len-count.ensures)

pub loop-at-preserved : goal.loop-at-preserved
loop-at-preserved c =
    let inside : c.loop-at.at < count_in c.args.goals.now = omega (arith, c.len-count.ensures) in
    elim c.if-is_parent.branch [
      | then-is_parent w ↦ rw (w.goal-is, w.above-is)
          (climbing_found _ _ _ _ _ _ c.loop-at.invariant inside _ c.entry_at-other.ensures (λ shop order. sym w.if-is_parent.true ∙ c.is_parent.ensures shop order))
      | else-is_parent w ↦ rw (w.goal-is, w.above-is)
          (climbing_passed _ _ _ _ _ _ c.loop-at.invariant inside _ c.entry_at-other.ensures (λ shop order. sym w.if-is_parent.false ∙ c.is_parent.ensures shop order))
    ]

pub returns : goal.returns
returns c =
    climbed c.args.goals.now c.args.place.0 c.requires c.entry_at-goal.ensures c.loop-at.invariant
    (omega (arith, c.loop-at-test.false, c.len-count.ensures))
