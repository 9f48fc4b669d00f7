-- The steps passed have led to the state, the goals and the totals at hand (`Running`, `Going`). Assumes nothing.
use Rattle.hgn.specs.Trace.{steps_of}
use Rattle.hgn.specs.Replay.{rules_of}
use Rattle.step.specs.Taking.{problem_with, Going}
use Rattle.replay.proofs.Running.{Running}
use Rattle.replay.proofs.run.take_all.Given as goal

abbrev pub invariant-loop-number : goal.invariant-loop-number
invariant-loop-number l =
    Running (rules_of l.shop) (steps_of l.trace) (problem_with l.shop l.order l.initial.atoms l.initial.waiting) l.number (problem_with l.shop l.order l.atoms l.waiting) l.totals.count l.totals.cost
    × Going l.shop l.order l.number l.atoms l.waiting
