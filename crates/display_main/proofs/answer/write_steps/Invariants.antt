-- The reader holds the trace; the steps that were taken have led to the record, and their bytes are counted (`Turning`). Assumes nothing.
use mathlib.Core.Path.{◌≡◌}
use lib.ListN.{length}
use Rattle.display_main.proofs.ShownTexts.{Turning}
use Rattle.display_main.proofs.answer.write_steps.Given as goal

abbrev pub invariant-loop-step : goal.invariant-loop-step
invariant-loop-step g l =
    (goal.iterator-loop-step g).can_next l.step-iterator × (goal.iterator-loop-step g).is_finite l.step-iterator
    × (l.step-iterator.trace.now ≡ l.trace)
    × Turning l.shop l.order l.trace l.before l.step-iterator.row.0 l.bytes l.problem
    × (length l.room ≡ length l.initial.room)
