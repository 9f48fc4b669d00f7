-- Of an accepted trace, what is ahead of the first record is the whole text. Assumes nothing.
use Prim.Native.Nat.{ℕ}
use native.Mathlib.Omega.{arith}
use mathlib.Core.Path.{◌≡◌, sym, ap, ap₂, ◌∙◌}
use mathlib.Core.List.{List}
use Rattle.hgn.specs.Run as Run
use Rattle.hgn.specs.Run.{Outcome, accepted, run}
use Rattle.hgn.specs.Trace.{steps_of}
use Rattle.hgn.specs.Replay.{rules_of}
use Rattle.hgn.proofs.Run.Replay.{steps_short}
use Rattle.hgn.proofs.Sheets.Trace.{trace_sizes}
use Rattle.step.specs.Steps.{problem_in}
use Rattle.step.specs.declared.problem.Problem.{Problem}
use Rattle.replay.specs.Running.{Prepared}
use Rattle.replay.proofs.TakenSteps.{going_first}
use Rattle.listing_main.specs.Listed.{lines_text, listing, number_to}
use Rattle.listing_main.specs.Pieces.{text_from, text_ahead, Ahead}
use Rattle.listing_main.proofs.Lists.{accepted_runs, accepted_lines, listing_accepted}

module _ (shop sheet trace : List ℕ) where
  module _ {table : List ℕ} {b : Problem} (accepts : number_to shop sheet trace ≡ 0) (first : Prepared shop sheet table b) where
    runs_first : run (rules_of shop) 0 (problem_in shop sheet b) (steps_of trace)
        ≡ accepted (accepted_runs shop sheet trace accepts).deeds (accepted_runs shop sheet trace accepts).last
    runs_first =
        ap {B = Outcome} (λ (P : Run.Problem). run (rules_of shop) 0 P (steps_of trace))
        (ap₂ {C = Run.Problem} (λ s w. record { state = s; waiting = w }) first.atoms first.goals.list)
        ∙ (accepted_runs shop sheet trace accepts).runs

    -- The whole trace is ahead of the first record.
    pub ahead_first : Ahead shop sheet trace 0 b
    ahead_first =
        let r = accepted_runs shop sheet trace accepts in
        record {
          few = omega (arith, steps_short trace, (trace_sizes shop sheet trace r.inputs.0).1);
          inside = omega arith;
          going = going_first b.atoms first.goals;
          deeds = r.deeds;
          last = r.last;
          accepts = runs_first;
        }

    pub text_first : text_ahead shop sheet trace 0 b ≡ listing shop sheet trace
    unfolding text_from
    text_first =
        let r = accepted_runs shop sheet trace accepts in
        ap (text_from 0) runs_first
        ∙ sym (listing_accepted shop sheet trace accepts ∙ ap lines_text (accepted_lines shop sheet trace r.deeds r.last r.runs))
