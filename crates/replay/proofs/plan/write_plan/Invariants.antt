-- The room holds the actions among the moves passed, then its own words (`Writing`). Assumes nothing.
use Rattle.replay.proofs.Writes.{Writing}
use Rattle.replay.proofs.plan.write_plan.Given as goal

abbrev pub invariant-loop-number : goal.invariant-loop-number
invariant-loop-number l = Writing l.actions l.moves l.initial.room l.room l.written l.number-index
