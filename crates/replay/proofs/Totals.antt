-- A run's steps as its trace has them, what an action costs by the words of its sheet, and how a run goes on and ends by what its
-- steps come to. Assumes nothing.
use Prim.Native.Nat.{ℕ, ◌+◌, ◌<◌, ◌≤◌}
use native.Mathlib.Omega.{arith}
use native.Mathlib.Nat.{add-zero}
use mathlib.Core.Path.{◌≡◌, refl, sym, ap, ap₂, ◌∙◌}
use mathlib.Core.Bool.{false}
use mathlib.Core.List.{List, [], ◌∷◌}
use lib.Dec.{eqb}
use lib.ListN.{length, get_or, take, drop}
use Rattle.hgn.specs.Meaning.{Domain}
use Rattle.hgn.specs.Questions.{Failure, ◌asks◌, failed_at, all_at, first_no}
use Rattle.hgn.specs.Run as Run
use Rattle.hgn.specs.Run.{Step, action_at, Deed, refused, taken, stepped, end_questions, plan_of, cost_of}
use Rattle.hgn.specs.Shop.{domain}
use Rattle.hgn.specs.Trace.{step, steps_of, step_count}
use Rattle.hgn.specs.Replay.{rules_of, refusal, acceptance, reported}
use Rattle.sheet_check.proofs.Lookup.{length_zip_with, get_or_zip_with, length_part, get_d_part}
use Rattle.sheet_index.proofs.Spans.{by_test}
use Rattle.replay.specs.Answers.{run_answer, end_answer}
use Rattle.replay.proofs.Running.{prepend_all, prepended_stopped, prepended_accepted, Running, running_next, running_stop, running_end}

-- The steps of a trace that is long enough for them.
module _ (trace : List ℕ) (fits : 1 + (step_count trace + step_count trace) ≤ length trace) where
  pub steps_length : length (steps_of trace) ≡ step_count trace
  unfolding steps_of
  steps_length =
      length_zip_with step (step_count trace) (take (step_count trace) (drop 1 trace)) (take (step_count trace) (drop (1 + step_count trace) trace))
      (length_part trace 1 (step_count trace) (omega arith)) (length_part trace (1 + step_count trace) (step_count trace) (omega arith))

  pub step_at : (i : ℕ) → i < step_count trace
      → get_or (steps_of trace) i (record { move = 0; place = 0 }) ≡ record { move = get_or trace (1 + i) 0; place = get_or trace (1 + step_count trace + i) 0 }
  unfolding steps_of
  step_at i h =
      get_or_zip_with step (take (step_count trace) (drop 1 trace)) (take (step_count trace) (drop (1 + step_count trace) trace)) i 0 0
      (rw (length_part trace 1 (step_count trace) (omega arith)) h) (rw (length_part trace (1 + step_count trace) (step_count trace) (omega arith)) h)
      ∙ ap₂ {C = Step} (λ m p. step m p) (get_d_part trace 1 (step_count trace) (omega arith) i h) (get_d_part trace (1 + step_count trace) (step_count trace) (omega arith) i h)

-- An action alone costs its cost.
pub cost_is : (d : Domain) (k : ℕ) → cost_of d (k ∷ []) ≡ (action_at d k).cost
unfolding cost_of
cost_is d k = add-zero (action_at d k).cost

-- After the last step: is nothing waiting?
ended_answer : (d : Domain) (steps : ℕ) (deeds : List Deed) (P : Run.Problem)
    → (reported d steps [] (prepend_all deeds (Run.ended steps P))).answer
    ≡ end_answer steps P.state (length P.waiting) (length (plan_of deeds)) (cost_of d (plan_of deeds))
unfolding Run.ended end_questions first_no all_at reported acceptance
ended_answer d steps deeds P = by_test (eqb (length P.waiting) 0)
    (λ z. rw (z, Run.ended, prepended_accepted deeds P.state) refl)
    (λ z. rw (z, Run.ended, prepended_stopped deeds (failed_at steps (33 asks false).failure)) refl)

-- A run in progress, and its next step.
module _ (shop trace : List ℕ) (fits : 1 + (step_count trace + step_count trace) ≤ length trace) (P₀ : Run.Problem)
    (i : ℕ) (P : Run.Problem) (count cost : ℕ) (going : Running (rules_of shop) (steps_of trace) P₀ i P count cost)
    (h : i < step_count trace) (move place : ℕ) (m : move ≡ get_or trace (1 + i) 0) (p : place ≡ get_or trace (1 + step_count trace + i) 0) where
  next_is : get_or (steps_of trace) i (record { move = 0; place = 0 }) ≡ record { move = move; place = place }
  next_is = step_at trace fits i h ∙ ap₂ {C = Step} (λ a b. record { move = a; place = b }) (sym m) (sym p)

  next_inside : i < length (steps_of trace)
  next_inside = omega (arith, steps_length trace fits)

  -- Refused, the run ends.
  pub run_stops : (q : Failure) → stepped (rules_of shop) i P (record { move = move; place = place }) ≡ refused q
      → (refusal [] (failed_at i q)).answer ≡ run_answer shop trace P₀
  unfolding reported
  run_stops q e =
      sym (ap (λ (o : Run.Outcome). (reported (domain shop) (step_count trace) [] o).answer)
      (running_stop (rules_of shop) (steps_of trace) P₀ i P count cost going next_inside (record { move = move; place = place }) next_is q e))

  -- Taken with no action.
  pub run_on : (deed : Deed) (P' : Run.Problem) → stepped (rules_of shop) i P (record { move = move; place = place }) ≡ taken deed P'
      → plan_of (deed ∷ []) ≡ [] → Running (rules_of shop) (steps_of trace) P₀ (i + 1) P' count cost
  unfolding cost_of
  run_on deed P' e none =
      let c : cost_of (domain shop) (plan_of (deed ∷ [])) ≡ 0 = ap (cost_of (domain shop)) none in
      running_next (rules_of shop) (steps_of trace) P₀ i P count cost going next_inside (record { move = move; place = place }) next_is deed P' count cost e
      (omega (arith, ap length none)) (omega (arith, c)) (omega (arith, ap length none)) (omega (arith, c))

  -- Taken with an action.
  pub run_acts : (k : ℕ) (P' : Run.Problem) (price : ℕ) → stepped (rules_of shop) i P (record { move = move; place = place }) ≡ taken (Run.takes k) P'
      → price ≡ cost_of (domain shop) (k ∷ []) → price ≤ 65535
      → Running (rules_of shop) (steps_of trace) P₀ (i + 1) P' (count + 1) (cost + price)
  unfolding plan_of
  run_acts k P' price e q small =
      running_next (rules_of shop) (steps_of trace) P₀ i P count cost going next_inside (record { move = move; place = place }) next_is (Run.takes k) P' (count + 1) (cost + price) e
      (omega arith) (omega arith) (omega arith) (omega arith)

-- A run in progress, and its end.
module _ (shop trace : List ℕ) (fits : 1 + (step_count trace + step_count trace) ≤ length trace) (P₀ : Run.Problem)
    (i : ℕ) (P : Run.Problem) (count cost : ℕ) (going : Running (rules_of shop) (steps_of trace) P₀ i P count cost)
  where
    -- After the last step.
    pub run_ended : step_count trace ≤ i → end_answer (step_count trace) P.state (length P.waiting) count cost ≡ run_answer shop trace P₀
    run_ended past =
        let l = steps_length trace fits in
        let last : i ≡ step_count trace = omega (arith, going.inside) in
        ap₂ (end_answer (step_count trace) P.state (length P.waiting)) going.counts going.costs
        ∙ sym (ended_answer (domain shop) (step_count trace) going.deeds P)
        ∙ ap (λ (o : Run.Outcome). (reported (domain shop) (step_count trace) [] o).answer)
        (ap (λ (n : ℕ). prepend_all going.deeds (Run.ended n P)) (sym last)
        ∙ sym (running_end (rules_of shop) (steps_of trace) P₀ i P count cost going (omega arith)))
