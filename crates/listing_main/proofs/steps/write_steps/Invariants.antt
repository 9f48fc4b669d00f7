-- The reader holds the trace, and the row that it has reached is the turns' (`TurnsSoFar`). Assumes nothing.
use mathlib.Core.Path.{◌≡◌}
use Rattle.listing_main.proofs.TurnsSoFar.{Reached}
use Rattle.listing_main.proofs.steps.write_steps.Given as goal

abbrev pub invariant-loop-step : goal.invariant-loop-step
invariant-loop-step g l =
    (goal.iterator-loop-step g).can_next l.step-iterator × (goal.iterator-loop-step g).is_finite l.step-iterator
    × (l.step-iterator.trace.now ≡ l.trace)
    × Reached l.shop l.order l.trace l.initial.problem.atoms l.initial.problem.waiting l.initial.room l.step-iterator.row.0 l.end l.problem.atoms l.problem.waiting l.room
