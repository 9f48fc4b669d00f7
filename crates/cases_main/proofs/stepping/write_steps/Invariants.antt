-- `stepping::write_steps` is safe: the steps that were taken have led to the record, and no more are counted than there are. Assumes nothing.
use Prim.Native.Nat.{◌≤◌}
use mir.Syntax.{w16}
use mir.Val.{Fits}
use Rattle.step.specs.Taking.{Going}
use Rattle.cases_main.proofs.stepping.write_steps.Given as goal

abbrev pub invariant-loop-at : goal.invariant-loop-at
invariant-loop-at g l =
    Going l.shop l.order l.number l.problem.atoms l.problem.waiting × (l.number ≤ l.at) × Fits w16 l.steps
