-- The questions of a run are those that it asks; and demand 2: a replay accepts exactly the derivations of Definition 1, with their plan,
-- cost and last state. Assumes nothing.
use Prim.Native.Nat.{ℕ, zero, suc, ◌≤◌}
use native.Mathlib.Omega.{arith}
use mathlib.Core.Path.{◌≡◌, refl, sym, ap, ◌∙◌, subst}
use mathlib.Core.Logic.{◌≢◌}
use mathlib.Core.List.{List, [], ◌∷◌, ◌++◌, zip_with}
use lib.ListN.{length, take, drop, length-append, length-drop}
use lib.Seq.{take-append_seam, drop-append_seam}
use borrow.Author.Tests.{leb-true, le-leb}
use Rattle.hgn.specs.Questions.{Failure, failed_at, all_at, Verdict, passed, refused, first_no}
use Rattle.hgn.specs.State.{State}
use Rattle.hgn.specs.Network.{goals_of, most_waiting}
use Rattle.hgn.specs.Run.{Step, move_of, Problem, problem_of, Rules, moved, step_questions, Deed, plan_of}
use Rattle.hgn.specs.Run.{stepped, Outcome, stopped, accepted, prepend, end_questions, ended, run_by, run, run_questions}
use Rattle.hgn.specs.Shop.{domain, shop_questions}
use Rattle.hgn.specs.Order.{order, order_questions}
use Rattle.hgn.specs.Trace.{step_count, step, steps_of, trace_questions, check_trace}
use Rattle.hgn.specs.Replay.{rules_of, Replayed, refusal, acceptance, reported, input_questions, check_replay, replay, replay_questions}
use Rattle.hgn.specs.Demands.{failure_of, Refuses, Derives, InputsPass, Accepts, Demand2}
use Rattle.hgn.proofs.Logic.Tests.{strict_decided}
use Rattle.hgn.proofs.Questions.FirstNo.{passed_cons, append_passed, append_refused, passed_append, verdict_at, first_at, refused_number, Tells, tells_refusal, tells_passed}
use Rattle.hgn.proofs.Questions.Numbers.{run_not_zero, input_numbers, not_zero}
use Rattle.hgn.proofs.Run.Steps.{step_refused, step_passed}
use Rattle.hgn.proofs.Run.Runs.{resumed, run_cons}
use Rattle.hgn.proofs.Run.Derivation.{derivation_runs, run_derives, plan_short}
use Rattle.hgn.proofs.Network.Waiting.{length_enter}
use Rattle.hgn.proofs.Sheets.Checked.{order_goals, shop_of_order, order_of_trace, shop_actions}

-- What a run stops at.
unfoldable pub verdict_of : Outcome → Verdict
verdict_of (stopped q) = refused q
verdict_of (accepted deeds s) = passed

prepend_verdict : (deed : Deed) (o : Outcome) → verdict_of (prepend deed o) ≡ verdict_of o
unfolding verdict_of prepend
prepend_verdict deed (stopped q) = refl
prepend_verdict deed (accepted deeds s) = refl

ended_first : (n : ℕ) (P : Problem) → first_no (all_at n (end_questions P)) ≡ verdict_of (ended n P)
unfolding ended verdict_of
ended_first n P = go (first_no (all_at n (end_questions P))) refl
  where
    go : (v : Verdict) → first_no (all_at n (end_questions P)) ≡ v → first_no (all_at n (end_questions P)) ≡ verdict_of (ended n P)
    go passed e = rw (e, ended)
    go (refused q) e = rw (e, ended)

-- A run stops at the first no of its questions.
pub run_first : (r : Rules) (n : ℕ) (P : Problem) (xs : List Step) → first_no (run_questions r n P xs) ≡ verdict_of (run r n P xs)
unfolding run_questions run_by verdict_of resumed verdict_at
run_first r n P [] = ended_first n P
run_first r n P (x ∷ xs) = go (first_no (step_questions r n P x)) refl (run_first r (suc n) next xs)
  where
    next : Problem
    next = moved r.domain n P x.place (move_of r.domain x.move)

    here : first_no (all_at n (step_questions r n P x)) ≡ verdict_at n (first_no (step_questions r n P x))
    here = first_at n (step_questions r n P x)

    go : (v : Verdict) → first_no (step_questions r n P x) ≡ v → first_no (run_questions r (suc n) next xs) ≡ verdict_of (run r (suc n) next xs)
        → first_no (all_at n (step_questions r n P x) ++ run_questions r (suc n) next xs) ≡ verdict_of (run r n P (x ∷ xs))
    go (refused q) e ih =
        append_refused (all_at n (step_questions r n P x)) _ (failed_at n q) (here ∙ ap (verdict_at n) e)
        ∙ sym (ap verdict_of (run_cons (stepped r) n P x xs ∙ ap (resumed (stepped r) n xs) (step_refused r n P x q e)))
    go passed e ih =
        append_passed (all_at n (step_questions r n P x)) _ (here ∙ ap (verdict_at n) e)
        ∙ ih
        ∙ sym (prepend_verdict _ (run r (suc n) next xs))
        ∙ sym (ap verdict_of (run_cons (stepped r) n P x xs ∙ ap (resumed (stepped r) n xs) (step_passed r n P x e)))

-- A trace is read as at most as many steps as it says.
zip_short : {A B C : Type 0} (f : A → B → C) (n : ℕ) (xs : List A) (ys : List B) → length (zip_with f (take n xs) ys) ≤ n
unfolding zip_with
zip_short f zero xs ys = omega arith
zip_short f (suc n) [] ys = omega arith
zip_short f (suc n) (x ∷ xs) [] = omega arith
zip_short f (suc n) (x ∷ xs) (y ∷ ys) = omega (arith, zip_short f n xs ys)

pub steps_short : (trace : List ℕ) → length (steps_of trace) ≤ step_count trace
unfolding steps_of
steps_short trace = zip_short step (step_count trace) (drop 1 trace) _

module _ (shop sheet trace room : List ℕ) where
  -- The run that a replay of these sheets reports.
  abbrev pub outcome : Outcome
  outcome = run (rules_of shop) 0 (problem_of (order sheet)) (steps_of trace)

  -- The questions before the run are all answered yes exactly when the sheets pass and the room is large enough.
  pub passed_inputs : check_replay shop sheet trace room ≡ passed → InputsPass shop sheet trace room
  unfolding check_replay input_questions check_trace
  passed_inputs e =
      let t = passed_append (shop_questions shop ++ order_questions shop sheet ++ trace_questions trace) _ e in
      (t.0, leb-true _ _ (passed_cons _ _ t.1).0)

  pub inputs_passed : InputsPass shop sheet trace room → check_replay shop sheet trace room ≡ passed
  unfolding check_replay input_questions check_trace first_no
  inputs_passed h =
      append_passed (shop_questions shop ++ order_questions shop sheet ++ trace_questions trace) _ h.0 ∙ rw (le-leb _ _ h.1)

  pub replay_refused : (q : Failure) → check_replay shop sheet trace room ≡ refused q → replay shop sheet trace room ≡ refusal room q
  unfolding replay
  replay_refused q e = rw (e, replay)

  pub replay_passed : check_replay shop sheet trace room ≡ passed
      → replay shop sheet trace room ≡ reported (domain shop) (step_count trace) room outcome
  unfolding replay
  replay_passed e = rw (e, replay)

  -- A replay either refuses by a number that is not 0, or accepts as its run does; and it tells the first no of its questions.
  pub data Report (c : Replayed) : Type 0 where
    refuses : (q : Failure) → q.refusal.number ≢ 0 → first_no (replay_questions shop sheet trace room) ≡ refused q → c ≡ refusal room q → Report c
    accepts : {deeds : List Deed} {last : State} → InputsPass shop sheet trace room → outcome ≡ accepted deeds last
        → first_no (replay_questions shop sheet trace room) ≡ passed
        → c ≡ acceptance (domain shop) (step_count trace) room (plan_of deeds) last → Report c

  report : Report (replay shop sheet trace room)
  unfolding reported check_replay replay_questions verdict_of
  report = go (check_replay shop sheet trace room) refl
    where
      ran : (o : Outcome) → outcome ≡ o → check_replay shop sheet trace room ≡ passed → Report (replay shop sheet trace room)
      ran (stopped q) e p =
          let f = run_first (rules_of shop) 0 (problem_of (order sheet)) (steps_of trace) ∙ ap verdict_of e in
          refuses q (refused_number (λ k a. k ≢ 0) _ (run_not_zero _ 0 _ _) q f)
          (append_passed (input_questions shop sheet trace room) _ p ∙ f)
          (replay_passed p ∙ ap (reported (domain shop) (step_count trace) room) e)
      ran (accepted deeds last) e p =
          accepts (passed_inputs p) e
          (append_passed (input_questions shop sheet trace room) _ p
          ∙ run_first (rules_of shop) 0 (problem_of (order sheet)) (steps_of trace) ∙ ap verdict_of e)
          (replay_passed p ∙ ap (reported (domain shop) (step_count trace) room) e)

      go : (v : Verdict) → check_replay shop sheet trace room ≡ v → Report (replay shop sheet trace room)
      go passed e = ran outcome refl e
      go (refused q) e =
          refuses q (refused_number (λ k a. k ≢ 0) _ (input_numbers (λ k a. k ≢ 0) not_zero shop sheet trace room) q e)
          (append_refused (input_questions shop sheet trace room) _ q e) (replay_refused q e)

  module _ (c : Replayed) (called : c ≡ replay shop sheet trace room) where
    pub reports : Report c
    reports = subst Report (sym called) report

    pub replay_tells : Tells (failure_of c.answer) (first_no (replay_questions shop sheet trace room))
    unfolding refusal acceptance
    replay_tells = go reports
      where
        go : Report c → Tells (failure_of c.answer) (first_no (replay_questions shop sheet trace room))
        go (refuses q h f e) = rw (f, e) tells_refusal
        go (accepts p o f e) = rw (f, e) (tells_passed refl)

    -- A refusal leaves all as it was.
    pub replay_refuses : c.answer.refusal.number ≢ 0 → Refuses room c
    unfolding refusal acceptance
    replay_refuses z = go reports
      where
        go : Report c → Refuses room c
        go (refuses q h f e) = rw e (record { state = refl; count = refl; cost = refl; unchanged = refl })
        go (accepts p o f e) = absurd (z (ap (λ (c : Replayed). c.answer.refusal.number) e))

    -- The accepted run of checked sheets is a derivation.
    derives : {deeds : List Deed} {last : State} → InputsPass shop sheet trace room → outcome ≡ accepted deeds last
        → Derives shop sheet trace (plan_of deeds) last
    unfolding goals_of
    derives p e =
        run_derives (rules_of shop) (strict_decided most_waiting (domain shop)) 0 _ (steps_of trace) _ _
        (rw length_enter (order_goals shop sheet (order_of_trace shop sheet trace p.0))) e

    -- A derivation on checked sheets is accepted with its plan and its last state.
    replays : (plan : List ℕ) (last : State) → InputsPass shop sheet trace room → Derives shop sheet trace plan last
        → c ≡ acceptance (domain shop) (step_count trace) room plan last
    unfolding reported
    replays plan last p h =
        let b = shop_actions shop (shop_of_order shop sheet (order_of_trace shop sheet trace p.0)) in
        let t = (derivation_runs (rules_of shop) (strict_decided most_waiting (domain shop)) b h).1 in
        called ∙ replay_passed (inputs_passed p)
        ∙ ap (reported (domain shop) (step_count trace) room) t.runs
        ∙ ap (λ (l : List ℕ). acceptance (domain shop) (step_count trace) room l last) (sym t.plan_is)

    results : (plan : List ℕ) (last : State) → InputsPass shop sheet trace room → Derives shop sheet trace plan last
        → Accepts shop trace room plan last c
    unfolding acceptance
    results plan last p h = rw (replays plan last p h) (record {
      number = refl;
      place = refl;
      state = refl;
      count = refl;
      cost = refl;
      plan_words = take-append_seam plan _;
      later_words = drop-append_seam plan _;
      room_length = simp (length-append, length-drop) (omega (arith, plan_short h, steps_short trace, p.1));
    })

    -- An answer with the number 0 comes of a derivation on checked sheets.
    accepted_derives : c.answer.refusal.number ≡ 0
        → InputsPass shop sheet trace room × ((plan : List ℕ) × (last : State) × Derives shop sheet trace plan last)
    unfolding refusal
    accepted_derives z = go reports
      where
        go : Report c → InputsPass shop sheet trace room × ((plan : List ℕ) × (last : State) × Derives shop sheet trace plan last)
        go (refuses q h f e) = absurd (h (sym (ap (λ (c : Replayed). c.answer.refusal.number) e) ∙ z))
        go (accepts {deeds} {last} p o f e) = (p, (plan_of deeds, last, derives p o))

-- A trace is accepted if and only if it is a derivation; plan, cost and last state are that derivation's.
pub demand_2 : Demand2
demand_2 shop sheet trace room c called = record {
  accepts_iff = (
    accepted_derives shop sheet trace room c called,
    λ h. (results shop sheet trace room c called h.1.0 h.1.1 h.0 h.1.2).number,
  );
  results = results shop sheet trace room c called;
}
