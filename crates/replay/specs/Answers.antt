-- The replay's answer, as the definitions have it. Document 01, "Questions"; document 02, Req 01.
use Rattle.std.specs.Prelude.{ℕ, false, cond, ◌&&◌, List, [], ◌∷◌, Result, Ok, Err, eqb, leb, ltb}
use Rattle.hgn.specs.Questions.{no_refusal, ◌asks◌, placed, failed_at}
use Rattle.hgn.specs.State.{State, no_atom}
use Rattle.hgn.specs.Run.{Problem, run}
use Rattle.hgn.specs.Shop.{domain}
use Rattle.hgn.specs.Trace.{step_count, steps_of}
use Rattle.hgn.specs.Replay as Replay
use Rattle.hgn.specs.Replay.{rules_of, Replayed, refusal, reported}
use Rattle.step.specs.Failures.{failure_of}
use Rattle.step.specs.declared.failure.Failure.{Failure}
use Rattle.replay.specs.declared.answer.Accepted.{Accepted}
use Rattle.replay.specs.declared.answer.Counts.{Counts}

-- What the call answers.
abbrev pub Answer : Type 0
Answer = Result Accepted Failure

-- Accepted, number 0 at the number of steps, and no atom; refused, what the failure tells, the empty state and both counts 0.
abbrev pub answer_of : Answer → Replay.Answer
answer_of (Ok a) =
    record { refusal = placed a.steps no_refusal; state = a.state.atoms; count = a.count; cost = a.cost; atom = no_atom }
answer_of (Err f) = (refusal [] (failure_of f)).answer

-- The counts and a state, as one answer.
abbrev pub accepted_at : State → Counts → Accepted
accepted_at s c = record { steps = c.steps; state = record { atoms = s }; count = c.count; cost = c.cost }

-- What a run answers that leaves its last state where it stood: that state is the answer's, where it accepts.
abbrev pub with_state : State → Result Counts Failure → Answer
with_state s (Ok c) = Ok (accepted_at s c)
with_state s (Err f) = Err f

-- The answer and the room at exit.
abbrev pub replayed_of : Answer → List ℕ → Replayed
replayed_of r exit = record { answer = answer_of r; room = exit }

-- The answer of a run of a trace's steps from a problem.
abbrev pub run_answer : List ℕ → List ℕ → Problem → Replay.Answer
run_answer shop trace P = (reported (domain shop) (step_count trace) [] (run (rules_of shop) 0 P (steps_of trace))).answer

-- The answer after the last step, with so many waiting.
abbrev pub end_answer : ℕ → State → ℕ → ℕ → ℕ → Replay.Answer
end_answer steps s waiting count cost =
    cond (eqb waiting 0)
    (record { refusal = placed steps no_refusal; state = s; count = count; cost = cost; atom = no_atom })
    (refusal [] (failed_at steps (33 asks false).failure)).answer

-- The moves that are actions, with so many actions.
unfoldable pub action_moves : ℕ → List ℕ → List ℕ
action_moves actions [] = []
action_moves actions (m ∷ ms) = cond (ltb 0 m && leb m actions) (m ∷ action_moves actions ms) (action_moves actions ms)
