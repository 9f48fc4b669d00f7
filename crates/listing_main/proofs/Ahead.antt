-- The steps of an accepted trace, one by one: what each gives to the text, and what is left of it. Assumes nothing.
use Prim.Native.Nat.{ℕ, suc, ◌+◌, ◌<◌}
use Rattle.std.specs.Prelude.{Option}
use native.Mathlib.Omega.{arith}
use native.Mathlib.Numerals.{add-one}
use mathlib.Core.Path.{◌≡◌, sym, ap, subst, ◌∙◌}
use mathlib.Core.List.{List, [], ◌∷◌, ◌++◌}
use mathlib.Core.Option.{none, some}
use lib.ListN.{length, drop, length-drop}
use Rattle.hgn.specs.State.{State}
use Rattle.hgn.specs.Run as Run
use Rattle.hgn.specs.Run.{Step, Deed, Outcome, accepted, taken, stepped, run_by, run}
use Rattle.hgn.specs.Trace.{steps_of}
use Rattle.hgn.specs.Replay.{rules_of}
use Rattle.hgn.specs.Listing.{lines_at, lines_of}
use Rattle.hgn.proofs.Run.Runs.{Resumes, resumes, ended_empty}
use Rattle.step.specs.Steps.{problem_in}
use Rattle.step.specs.declared.problem.Problem.{Problem}
use Rattle.trace_reader.specs.TraceRows.{row_at}
use Rattle.trace_reader.proofs.RowLaws.{row_first, row_none}
use Rattle.listing.specs.Lines.{lines_told, Narrow, Follows, StepTold}
use Rattle.listing.specs.declared.line.Line.{Line}
use Rattle.listing_main.specs.Listed.{lines_text}
use Rattle.listing_main.specs.Pieces.{piece_text, text_from, text_ahead, Ahead}
use Rattle.listing_main.proofs.Pieces.{piece_is, lines_append}
use Rattle.network.specs.declared.goals.Goals.{Goals}

module _ (shop sheet trace : List ℕ) where
  -- Past the last step nothing is left of the text.
  pub nothing_ahead : {k : ℕ} {b : Problem} → Ahead shop sheet trace k b → row_at trace k ≡ none → text_ahead shop sheet trace k b ≡ []
  unfolding row_at text_from run_by lines_of lines_text
  nothing_ahead {k} {b} a e =
      let past = row_none trace k e in
      let none_done = (ended_empty k (problem_in shop sheet b) a.deeds a.last
      (subst (λ (xs : List Step). run (rules_of shop) k (problem_in shop sheet b) xs ≡ accepted a.deeds a.last) past a.accepts)).1 in
      ap (text_from k) a.accepts ∙ ap (λ (ds : List Deed). lines_text (lines_of k ds)) none_done

  -- A step of an accepted trace is taken, and the rest is accepted from what it leaves.
  module _ {k : ℕ} {b : Problem} (a : Ahead shop sheet trace k b) (x : Step) (found : row_at trace k ≡ some x) where
    rest_is : drop k (steps_of trace) ≡ x ∷ drop (suc k) (steps_of trace)
    unfolding row_at
    rest_is = row_first trace k x found ∙ ap {B = List Step} (λ (j : ℕ). x ∷ drop j (steps_of trace)) (add-one k)

    row_inside : k < length (steps_of trace)
    row_inside = omega (arith, length-drop k (steps_of trace), ap length rest_is)

    on : Resumes (stepped (rules_of shop)) k (problem_in shop sheet b) x (drop (suc k) (steps_of trace)) a.deeds a.last
    on =
        resumes (stepped (rules_of shop)) k (problem_in shop sheet b) x (drop (suc k) (steps_of trace)) a.deeds a.last
        (subst (λ (xs : List Step). run (rules_of shop) k (problem_in shop sheet b) xs ≡ accepted a.deeds a.last) rest_is a.accepts)

    module _ (told : Option Line) (s' : State) (ws' : Goals) (t : StepTold shop sheet k x b.atoms b.waiting told s' ws') where
      abbrev b' : Problem
      b' = record { atoms = s'; waiting = ws' }

      follows : Follows shop sheet k on.deed on.left told s' ws'
      follows = t on.deed on.left on.first

      accepts_on : run (rules_of shop) (k + 1) (problem_in shop sheet b') (drop (k + 1) (steps_of trace)) ≡ accepted on.rest a.last
      accepts_on =
          ap {B = Outcome} (λ (n : ℕ). run (rules_of shop) n (problem_in shop sheet b') (drop n (steps_of trace))) (add-one k)
          ∙ ap {B = Outcome} (λ (P : Run.Problem). run (rules_of shop) (suc k) P (drop (suc k) (steps_of trace))) follows.leaves
          ∙ on.goes_on

      pub ahead_on : Ahead shop sheet trace (k + 1) (record { atoms = s'; waiting = ws' })
      ahead_on = record {
        few = a.few;
        inside = omega (arith, row_inside);
        going = follows.going;
        deeds = on.rest;
        last = a.last;
        accepts = accepts_on;
      }

      pub told_narrow : Narrow (lines_told told)
      told_narrow = follows.narrow

      -- The text from this step on is the step's piece, and behind it the text from the next on.
      pub text_on : text_ahead shop sheet trace k b ≡ piece_text told ++ text_ahead shop sheet trace (k + 1) (record { atoms = s'; waiting = ws' })
      unfolding text_from lines_of
      text_on =
          ap (text_from k) a.accepts
          ∙ ap (λ (ds : List Deed). lines_text (lines_of k ds)) on.whole
          ∙ lines_append (lines_at k on.deed) (lines_of (suc k) on.rest)
          ∙ ap {B = List ℕ} (λ l. l ++ lines_text (lines_of (suc k) on.rest)) (sym (piece_is told (lines_at k on.deed) follows.lines))
          ∙ ap {B = List ℕ} (λ (n : ℕ). piece_text told ++ lines_text (lines_of n on.rest)) (sym (add-one k))
          ∙ ap {B = List ℕ} (λ l. piece_text told ++ l) (sym (ap (text_from (k + 1)) accepts_on))
