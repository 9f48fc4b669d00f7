-- The ways that the call ends, and the definition's answer in each. Assumes nothing.
use Prim.Native.Nat.{ℕ, ◌+◌, ◌<◌, ◌≤◌}
use Rattle.std.specs.Prelude.{Result, Ok, Err}
use native.Mathlib.Omega.{arith}
use mathlib.Core.Path.{◌≡◌, refl, sym, ap, ap₂, ◌∙◌}
use mathlib.Core.Logic.{◌≢◌}
use mathlib.Core.Bool.{false}
use mathlib.Core.List.{List, [], ◌++◌}
use lib.ListN.{length, take, drop}
use borrow.Author.Tests.{lt-leb}
use Rattle.hgn.specs.Questions as Questions
use Rattle.hgn.specs.Questions.{no_refusal, without_atom, ◌asks◌, Verdict, passed, refused, first_no, answered}
use Rattle.hgn.specs.State.{State, no_atom}
use Rattle.hgn.specs.Run.{problem_of, Deed, Outcome, stopped, accepted, run, plan_of}
use Rattle.hgn.specs.Shop.{domain, action_count, shop_questions}
use Rattle.hgn.specs.Order.{order as meaning, order_questions}
use Rattle.hgn.specs.Trace.{step_count, steps_of, trace_questions, check_trace}
use Rattle.hgn.specs.Replay as Replay
use Rattle.hgn.specs.Replay.{rules_of, Replayed, refusal, acceptance, reported, input_questions, check_replay, replay}
use Rattle.hgn.proofs.Questions.FirstNo.{append_passed, append_refused, refused_number, refused_unnamed, answered_passed}
use Rattle.hgn.proofs.Questions.Numbers.{of_trace_law, run_not_zero, not_zero}
use Rattle.hgn.proofs.Sheets.Checked.{shop_of_order, order_of_trace, shop_counts}
use Rattle.hgn.proofs.Run.Replay.{inputs_passed, replay_refused, replay_passed, verdict_of, run_first}
use Rattle.hgn.proofs.Sheets.Trace.{trace_sizes}
use Rattle.sheet_check.proofs.Lookup.{length_part}
use Rattle.sheet_rows.specs.Refusals.{refusal_of}
use Rattle.sheet_rows.specs.declared.refusal.Refusal.{Refusal}
use Rattle.sheet_rows.proofs.Laws.{numbered}
use Rattle.step.specs.declared.failure.Failure.{Failure}
use Rattle.replay.specs.Answers.{answer_of, replayed_of, run_answer, action_moves}
use Rattle.replay.specs.declared.answer.Accepted.{Accepted}
use Rattle.replay.proofs.Plans.{plan_moves, plan_is}

module _ (shop order trace room : List ℕ) where
  abbrev outcome : Outcome
  outcome = run (rules_of shop) 0 (problem_of (meaning order)) (steps_of trace)

  -- What the call is to give.
  abbrev Gives : Result Accepted Failure → List ℕ → Type 0
  Gives r exit = replayed_of r exit ≡ replay shop order trace room

  -- A refusal at a question before the run.
  before_run : (q : Questions.Failure) → check_replay shop order trace room ≡ refused q → (r : Result Accepted Failure)
      → answer_of r ≡ (refusal [] q).answer → Gives r room
  unfolding refusal
  before_run q e r a = ap (λ (x : Replay.Answer). record { answer = x; room = room }) a ∙ sym (replay_refused shop order trace room q e)

  -- A sheet is refused.
  pub sheet_refused : (v : Refusal) → refusal_of v ≡ answered (check_trace shop order trace) → (r : Result Accepted Failure)
      → answer_of r ≡ (refusal [] (without_atom (refusal_of v))).answer → Gives r room
  unfolding check_replay input_questions check_trace
  sheet_refused v e r a = go (check_trace shop order trace) refl
    where
      go : (w : Verdict) → check_trace shop order trace ≡ w → Gives r room
      go passed w = absurd (numbered v.question (ap (λ (x : Questions.Refusal). x.number) (e ∙ ap answered w)))
      go (refused q) w =
          before_run q (append_refused (shop_questions shop ++ order_questions shop order ++ trace_questions trace) _ q w) r
          (a ∙ ap (λ (x : Questions.Refusal). (refusal [] (without_atom x)).answer) (e ∙ ap answered w)
          ∙ sym (ap (λ (f : Questions.Failure). (refusal [] f).answer)
          (refused_unnamed (shop_questions shop ++ order_questions shop order ++ trace_questions trace) (of_trace_law (λ k a. a ≡ no_atom) (λ k l. refl) shop order trace) q w)))

  -- A check that answers no refusal has passed.
  pub sheet_passes : no_refusal ≡ answered (check_trace shop order trace) → check_trace shop order trace ≡ passed
  unfolding check_trace
  sheet_passes e = answered_passed _ [] no_refusal e (of_trace_law _ not_zero shop order trace) refl

  module _ (ok : check_trace shop order trace ≡ passed) where
    -- The room is too short.
    pub room_short : length room < step_count trace → (r : Result Accepted Failure) → answer_of r ≡ (refusal [] (24 asks false).failure).answer → Gives r room
    unfolding check_replay input_questions check_trace first_no
    room_short h r a =
        before_run (24 asks false).failure
        (append_passed (shop_questions shop ++ order_questions shop order ++ trace_questions trace) _ ok ∙ rw (lt-leb (step_count trace) (length room) h)) r a

    module _ (fits : step_count trace ≤ length room) where
      reports : replay shop order trace room ≡ reported (domain shop) (step_count trace) room outcome
      reports = replay_passed shop order trace room (inputs_passed shop order trace room (ok, fits))

      -- The plan is the actions among the moves.
      plan_words : (deeds : List Deed) (last : State) → outcome ≡ accepted deeds last
          → plan_of deeds ≡ action_moves (action_count shop) (take (step_count trace) (drop 1 trace))
      unfolding steps_of
      plan_words deeds last e =
          let t = trace_sizes shop order trace ok in
          plan_is (rules_of shop) 0 (problem_of (meaning order)) (steps_of trace) deeds last e
          ∙ plan_moves (domain shop) (take (step_count trace) (drop 1 trace)) (take (step_count trace) (drop (1 + step_count trace) trace))
          (omega (arith, length_part trace 1 (step_count trace) (omega arith), length_part trace (1 + step_count trace) (step_count trace) (omega arith)))
          ∙ ap (λ (k : ℕ). action_moves k (take (step_count trace) (drop 1 trace))) (shop_counts shop (shop_of_order shop order (order_of_trace shop order trace ok))).0

      module _ (r : Result Accepted Failure) (a : answer_of r ≡ run_answer shop trace (problem_of (meaning order))) where
        answers : (o : Outcome) → outcome ≡ o → answer_of r ≡ (reported (domain shop) (step_count trace) [] o).answer
        answers o e = a ∙ ap (λ (x : Outcome). (reported (domain shop) (step_count trace) [] x).answer) e

      -- A step is refused, or something waits at the end.
      pub run_stopped : (f : Failure) → answer_of (Err f) ≡ run_answer shop trace (problem_of (meaning order)) → Gives (Err f) room
      unfolding reported refusal acceptance
      run_stopped f a = go outcome refl
        where
          go : (o : Outcome) → outcome ≡ o → Gives (Err f) room
          go (stopped q) e =
              ap (λ (x : Replay.Answer). record { answer = x; room = room }) (answers (Err f) a (stopped q) e)
              ∙ sym (reports ∙ ap (reported (domain shop) (step_count trace) room) e)
          go (accepted deeds last) e =
              absurd (numbered f.refusal.question (ap (λ (x : Replay.Answer). x.refusal.number) (answers (Err f) a (accepted deeds last) e)))

      -- Accepted, with the plan written.
      pub run_accepted : (t : Accepted) → answer_of (Ok t) ≡ run_answer shop trace (problem_of (meaning order)) → (exit : List ℕ)
          → exit ≡ action_moves (action_count shop) (take (step_count trace) (drop 1 trace))
          ++ drop (length (action_moves (action_count shop) (take (step_count trace) (drop 1 trace)))) room
          → Gives (Ok t) exit
      unfolding reported refusal acceptance verdict_of
      run_accepted t a exit w = go outcome refl
        where
          go : (o : Outcome) → outcome ≡ o → Gives (Ok t) exit
          go (stopped q) e =
              let f = run_first (rules_of shop) 0 (problem_of (meaning order)) (steps_of trace) ∙ ap verdict_of e in
              absurd (refused_number (λ k a. k ≢ 0) _ (run_not_zero (rules_of shop) 0 (problem_of (meaning order)) (steps_of trace)) q f
              (sym (ap (λ (x : Replay.Answer). x.refusal.number) (answers (Ok t) a (stopped q) e))))
          go (accepted deeds last) e =
              ap₂ {C = Replayed} (λ (x : Replay.Answer) (l : List ℕ). record { answer = x; room = l }) (answers (Ok t) a (accepted deeds last) e)
              (w ∙ ap (λ (p : List ℕ). p ++ drop (length p) room) (sym (plan_words deeds last e)))
              ∙ sym (reports ∙ ap (reported (domain shop) (step_count trace) room) e)
