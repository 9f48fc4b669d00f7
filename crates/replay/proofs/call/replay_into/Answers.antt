-- Each way that the call ends is one of `Calls`. Assumes nothing.
use Prim.Native.Nat.{ℕ, ◌≤◌}
use native.Mathlib.Omega.{arith}
use mathlib.Core.Path.{◌≡◌, ap, ap₂, ◌∙◌}
use mathlib.Core.List.{List, [], ◌++◌}
use lib.ListN.{length, take, drop}
use Rattle.std.specs.Prelude.{Err}
use Rattle.std.proofs.lemmas.Result.{err_from_is_err_and}
use Rattle.hgn.specs.Questions.{Failure}
use Rattle.hgn.specs.State.{empty_state}
use Rattle.hgn.specs.Replay.{Replayed, refusal}
use Rattle.hgn.specs.Trace.{step_count}
use Rattle.hgn.proofs.Sheets.Trace.{trace_sizes}
use Rattle.sheet_check.proofs.Lookup.{length_part}
use Rattle.replay.specs.Answers.{action_moves}
use Rattle.replay.proofs.Calls.{sheet_refused, sheet_passes, room_short, run_stopped, run_accepted}
use Rattle.replay.proofs.call.replay_into.Goals as goal

-- The state of what is told is the answer's.
state_of : {a b : Replayed} → a ≡ b → a.answer.state ≡ b.answer.state
state_of = ap (λ (x : Replayed). x.answer.state)

pub returns-in_err-check_trace : goal.returns-in_err-check_trace
unfolding empty_state refusal
returns-in_err-check_trace c =
    let p = err_from_is_err_and c.from_residual.result c.from_residual.ensures.1 in
    let told = sheet_refused _ _ _ _ c.in_err-check_trace.field-0.0 c.in_err-check_trace.ensures (Err p.0)
    (ap (λ (f : Failure). (refusal [] f).answer) p.2) in
    rw p.1 (record { called = told; state = state_of told })

pub returns-then-plan-word : goal.returns-then-plan-word
unfolding empty_state refusal
returns-then-plan-word c =
    let told = room_short _ _ _ _ (sheet_passes _ _ _ c.args.plan.now c.in_ok-check_trace.ensures) (omega (arith, c.if-plan-word.true, c.word.ensures)) (Err c.by.result)
    (ap (λ (f : Failure). (refusal [] f).answer) c.by.ensures) in
    record { called = told; state = state_of told }

pub run_checked-requires : goal.run_checked-requires
run_checked-requires c = sheet_passes _ _ _ c.args.plan.now c.in_ok-check_trace.ensures

pub returns-in-Err : goal.returns-in-Err
unfolding empty_state refusal
returns-in-Err c =
    let told = run_stopped _ _ _ _ (sheet_passes _ _ _ c.args.plan.now c.in_ok-check_trace.ensures) (omega (arith, c.if-plan-word.false, c.word.ensures))
    c.in-Err.failure c.in-Err.ensures in
    record { called = told; state = state_of told }

pub moves_of-requires : goal.moves_of-requires
moves_of-requires c = omega (arith, (trace_sizes _ _ _ (sheet_passes _ _ _ c.args.plan.now c.in_ok-check_trace.ensures)).0)

pub write_plan-requires : goal.write_plan-requires
write_plan-requires c =
    let trace : List ℕ = c.args.trace.now in
    let passes = sheet_passes _ _ _ c.args.plan.now c.in_ok-check_trace.ensures in
    let enough : step_count trace ≤ length c.args.plan.now = omega (arith, c.if-plan-word.false, c.word.ensures) in
    let moves_length : length (take (step_count trace) (drop 1 trace)) ≡ step_count trace = length_part trace 1 (step_count trace) (omega (arith, (trace_sizes _ _ _ passes).0)) in
    rw (ap length c.moves_of.ensures ∙ moves_length) enough

pub returns-in-Ok : goal.returns-in-Ok
returns-in-Ok c =
    let room : List ℕ = c.args.plan.now in
    let told = run_accepted _ _ _ room (sheet_passes _ _ _ room c.in_ok-check_trace.ensures) (omega (arith, c.if-plan-word.false, c.word.ensures)) _
    c.in-Ok.ensures _
    (c.write_plan.ensures
    ∙ ap₂ {C = List ℕ} (λ (k : ℕ) (ms : List ℕ). action_moves k ms ++ drop (length (action_moves k ms)) room)
    c.word-in-Ok.ensures c.moves_of.ensures) in
    record { called = told; state = state_of told }
