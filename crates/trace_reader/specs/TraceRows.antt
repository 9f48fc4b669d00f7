-- What stands at a row of a trace, and what a reader of it gives. Document 02, Req 03; document 01, "The three sheets".
use Rattle.std.specs.Prelude as Code
use Rattle.std.specs.Prelude.{ℕ, ◌+◌, ◌^◌, ◌<◌, ◌≡◌, List, drop}
use Rattle.std.proofs.Math.Option.{Option, none, some}
use Rattle.std.proofs.Math.ListN.{get_elem?}
use Rattle.hgn.specs.Run.{Step}
use Rattle.hgn.specs.Trace.{steps_of}
use Rattle.step.specs.declared.moves.Step as Moves
use Rattle.trace_reader.specs.declared.reader.Reader.{Reader}

-- The step of this number, from 0; none past the last. Of any words: a trace that has fewer than its size tells has fewer steps.
unfoldable pub row_at : List ℕ → ℕ → Option Step
row_at trace row = get_elem? (steps_of trace) row

-- A step by its move and its place, or none.
abbrev pub step_of : Code.Option Moves.Step → Option Step
step_of (Code.Some step) = some (record { move = step.mv; place = step.place.0 })
step_of Code.None = none

-- The steps of the trace from the row that is reached on.
unfoldable pub steps_left : Reader → List Step
steps_left reader = drop reader.row.0 (steps_of reader.trace.now)

-- A step that a reader gives: the one at the row that it has reached, with its number; then it has reached the next row of the same trace. A trace's
-- steps are few enough that the row behind each has a number.
pub record StepGiven (old : Reader) (step : Moves.Step) (new : Reader) : Type 0 where
  pub reads : row_at old.trace.now old.row.0 ≡ some (record { move = step.mv; place = step.place.0 })
  pub numbered : step.number ≡ old.row.0
  pub few : step.number + 1 < 2 ^ 16
  pub held : new.trace ≡ old.trace
  pub onward : new.row.0 ≡ old.row.0 + 1

-- What a reader gives: a step; or none, past the last step, and then it stays where it is.
abbrev pub GivesStep : Reader → Code.Option Moves.Step → Reader → Type 0
GivesStep old (Code.Some step) new = StepGiven old step new
GivesStep old Code.None new = (row_at old.trace.now old.row.0 ≡ none) × (new ≡ old)
