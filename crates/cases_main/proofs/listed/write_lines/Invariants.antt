-- The reader holds the trace, and what is ahead of its row is accepted (`Ahead`). Assumes nothing.
use mathlib.Core.Path.{◌≡◌}
use Rattle.cases_main.proofs.Accepted.{Ahead}
use Rattle.cases_main.proofs.listed.write_lines.Given as goal

abbrev pub invariant-loop-step : goal.invariant-loop-step
invariant-loop-step g l =
    (goal.iterator-loop-step g).can_next l.step-iterator × (goal.iterator-loop-step g).is_finite l.step-iterator
    × (l.step-iterator.trace.now ≡ l.trace)
    × Ahead l.shop l.order l.trace l.step-iterator.row.0 l.problem.atoms l.problem.waiting
