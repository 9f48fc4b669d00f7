-- The display's record before and after a step. Document 01, "How a derivation runs"; document 02, Req 01 and 03.
use Rattle.std.specs.Prelude.{ℕ, List, Result}
use Rattle.hgn.specs.Run.{Step, Stepped, stepped}
use Rattle.hgn.specs.Replay.{rules_of}
use Rattle.step.specs.Steps as Steps
use Rattle.step.specs.Steps.{problem_in}
use Rattle.step.specs.declared.failure.Failure.{Failure}
use Rattle.step.specs.declared.problem.Problem.{Problem}

-- What step `x`, the trace's step number `n`, comes to at a record.
abbrev pub stepped_at : List ℕ → List ℕ → ℕ → Step → Problem → Stepped
stepped_at shop order n x b = stepped (rules_of shop) n (problem_in shop order b) x

-- The answer, with its question and its atom, and the record are what the step's definition gives at the record before: the atoms, and the
-- goals that wait, by place; refused, the whole record is as it was. What the words behind those of the last goal hold is free.
-- A waiting goal of the definitions has its source, so each goal in the record shows the method and the step that brought it in.
abbrev pub Forward : List ℕ → List ℕ → ℕ → Step → Problem → Result (Unit {0}) Failure → Problem → Type 0
Forward shop order n x before answer after =
    Steps.IsStep shop order (stepped_at shop order n x before) before (record { answer = answer; problem = after })
