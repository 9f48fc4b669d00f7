-- A trace that a replay accepts, gone through step by step. Assumes nothing.
use Prim.Native.Nat.{ℕ, ◌+◌, ◌<◌, ◌≤◌}
use native.Mathlib.Omega.{arith}
use mathlib.Core.Path.{◌≡◌, refl, sym, ap, subst, ◌∙◌}
use mathlib.Core.List.{List, []}
use mathlib.Core.Option.{some}
use mathlib.Core.Logic.{◌≢◌}
use lib.ListN.{length, drop, length-drop}
use Rattle.hgn.specs.Questions.{no_refusal, passed, answered}
use Rattle.hgn.specs.State.{State}
use Rattle.hgn.specs.Run as Run
use Rattle.hgn.specs.Run.{Step, Deed, Outcome, accepted, run}
use Rattle.hgn.specs.Order.{check_order}
use Rattle.hgn.specs.Trace.{most_steps, steps_of, check_trace}
use Rattle.hgn.specs.Replay.{Replayed, rules_of, refusal, replay}
use Rattle.hgn.proofs.Questions.FirstNo.{answered_passed}
use Rattle.hgn.proofs.Questions.Numbers.{of_order_law, not_zero}
use Rattle.hgn.proofs.Sheets.Checked.{order_of_trace}
use Rattle.hgn.proofs.Sheets.Trace.{trace_sizes}
use Rattle.hgn.proofs.Run.Replay.{outcome, steps_short, Report, refuses, accepts, reports}
use Rattle.sheet_rows.proofs.Laws.{numbered}
use Rattle.step.specs.Failures.{told_of}
use Rattle.step.specs.declared.failure.Failure.{Failure}
use Rattle.step.specs.Taking.{problem_with, Going}
use Rattle.step.specs.declared.problem.Problem.{Problem}
use Rattle.replay.specs.Running.{Prepared}
use Rattle.trace_reader.specs.TraceRows.{row_at}
use Rattle.trace_reader.proofs.RowLaws.{row_first}
use Rattle.listing.specs.Lines.{StepTold}
use Rattle.std.specs.Prelude.{Option, Result, Err}
use Rattle.listing.specs.declared.line.Line.{Line}
use Rattle.listing.proofs.Onward.{onward}
use Rattle.display.proofs.Steppings.{display_goes_on}
use Rattle.cases_main.specs.Accepted.{IsAccepted}
use Rattle.network.specs.declared.goals.Goals.{Goals}

-- What is told of a step that is refused has another number than 0.
pub refused_number : {r : Result (Unit {0}) Failure} {f : Failure} → r ≡ Err f → (told_of r).refusal.number ≢ 0
refused_number {r} {f} e z = numbered f.refusal.question (sym (ap (λ (q : Result (Unit {0}) Failure). (told_of q).refusal.number) e) ∙ z)

-- An order whose check refuses nothing has passed.
pub order_passes : (shop sheet : List ℕ) → no_refusal ≡ answered (check_order shop sheet) → check_order shop sheet ≡ passed
unfolding check_order
order_passes shop sheet e = answered_passed _ [] no_refusal e (of_order_law _ not_zero shop sheet) refl

module _ (shop sheet trace : List ℕ) where
  -- The sheets and the trace pass, and the run of the trace is accepted.
  pub record Runs : Type 0 where
    pub checked : check_trace shop sheet trace ≡ passed
    pub deeds : List Deed
    pub last : State
    pub runs : outcome shop sheet trace [] ≡ accepted deeds last

  pub accepted_runs : IsAccepted shop sheet trace → Runs
  unfolding refusal
  accepted_runs (room, z) = go (reports shop sheet trace room _ refl)
    where
      go : Report shop sheet trace room (replay shop sheet trace room) → Runs
      go (refuses q h f e) = absurd (h (sym (ap (λ (c : Replayed). c.answer.refusal.number) e) ∙ z))
      go (accepts {deeds} {last} p o f e) = record { checked = p.0; deeds = deeds; last = last; runs = o }

  pub accepted_order : IsAccepted shop sheet trace → check_order shop sheet ≡ passed
  accepted_order a = order_of_trace shop sheet trace (accepted_runs a).checked

  -- The steps before step `n` have led to this state and these goals, and from there the others are accepted.
  pub record Ahead (n : ℕ) (s : State) (ws : Goals) : Type 0 where
    pub few : length (steps_of trace) ≤ most_steps
    pub inside : n ≤ length (steps_of trace)
    pub going : Going shop sheet n s ws
    pub deeds : List Deed
    pub last : State
    pub accepts : run (rules_of shop) n (problem_with shop sheet s ws) (drop n (steps_of trace)) ≡ accepted deeds last

  pub all_ahead : (table : List ℕ) (b : Problem) → Prepared shop sheet table b → IsAccepted shop sheet trace → Ahead 0 b.atoms b.waiting
  all_ahead table b p a =
      let r = accepted_runs a in
      let first = display_goes_on.begins shop sheet table b p in
      record {
        few = omega (arith, steps_short trace, (trace_sizes shop sheet trace r.checked).1);
        inside = omega arith;
        going = first.1;
        deeds = r.deeds;
        last = r.last;
        accepts = ap {B = Outcome} (λ (P : Run.Problem). run (rules_of shop) 0 P (steps_of trace)) first.0 ∙ r.runs;
      }

  module _ {n : ℕ} {s : State} {ws : Goals} (a : Ahead n s ws) (x : Step) (found : row_at trace n ≡ some x) where
    pub row_inside : n < length (steps_of trace)
    row_inside = omega (arith, length-drop n (steps_of trace), ap length (row_first trace n x found))

    -- One step fewer is ahead.
    pub ahead_on : {told : Option Line} {s' : State} {ws' : Goals} {next : ℕ} → StepTold shop sheet n x s ws told s' ws' → next ≡ n + 1 → Ahead next s' ws'
    ahead_on {told} {s'} {ws'} t e =
        let ran = ap (run (rules_of shop) n (problem_with shop sheet s ws)) (sym (row_first trace n x found)) ∙ a.accepts in
        let on = onward shop sheet n x (drop (n + 1) (steps_of trace)) a.deeds a.last s ws told s' ws' ran t in
        subst (λ (k : ℕ). Ahead k s' ws') (sym e) (record {
          few = a.few;
          inside = omega (arith, row_inside);
          going = on.going;
          deeds = on.rest;
          last = a.last;
          accepts = on.accepts;
        })

-- The steps of an accepted trace, read by a reader that holds it: the row that it has reached is ahead.
module _ {shop sheet trace : List ℕ} {n : ℕ} {s : State} {ws : Goals} (a : Ahead shop sheet trace n s ws) {held : List ℕ} (same : held ≡ trace) {x : Step}
    (found : row_at held n ≡ some x) {number : ℕ} (numbered : number ≡ n) where
  pub asks : Going shop sheet number s ws
  asks = rw numbered a.going

  pub read_on : {told : Option Line} {s' : State} {ws' : Goals} {next : ℕ} → StepTold shop sheet number x s ws told s' ws' → next ≡ n + 1
      → Ahead shop sheet trace next s' ws'
  read_on {told} {s'} {ws'} t e =
      ahead_on shop sheet trace a x (rw (← same) found) (subst (λ (m : ℕ). StepTold shop sheet m x s ws told s' ws') numbered t) e
