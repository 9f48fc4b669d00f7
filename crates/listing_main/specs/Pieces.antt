-- The pieces in which the listing program makes the text of an accepted trace, one for each step, and what is ahead of a step. Document 02, Req 03.
use Rattle.std.specs.Prelude.{ℕ, ◌≤◌, ◌≡◌, List, [], ◌∷◌, ◌++◌, length, drop, Option}
use Rattle.hgn.specs.State.{State}
use Rattle.hgn.specs.Run.{Deed, Outcome, stopped, accepted, run}
use Rattle.hgn.specs.Trace.{most_steps, steps_of}
use Rattle.hgn.specs.Replay.{rules_of}
use Rattle.hgn.specs.Listing.{lines_of}
use Rattle.step.specs.Steps.{problem_in}
use Rattle.step.specs.Taking.{Going}
use Rattle.step.specs.declared.problem.Problem.{Problem}
use Rattle.listing.specs.Lines.{lines_told}
use Rattle.listing.specs.declared.line.Line.{Line}
use Rattle.listing_main.specs.Listed.{line_text, lines_text, line_bytes}

-- The text of lines as the code has them.
unfoldable pub numbers_text : List Line → List ℕ
numbers_text [] = []
numbers_text (l ∷ ls) = line_text l.above l.released l.brought l.method ++ numbers_text ls

-- The piece of a step: the text of the lines that it told.
abbrev pub piece_text : Option Line → List ℕ
piece_text told = numbers_text (lines_told told)

-- The most bytes of a piece: a step tells one line at most.
abbrev pub piece_bytes : ℕ
piece_bytes = line_bytes

-- The text of the lines of what a run did from step `n` on.
unfoldable pub text_from : ℕ → Outcome → List ℕ
text_from n (stopped f) = []
text_from n (accepted deeds last) = lines_text (lines_of n deeds)

-- The text of the steps from step `n` on, from the problem that a record stands for.
abbrev pub text_ahead : List ℕ → List ℕ → List ℕ → ℕ → Problem → List ℕ
text_ahead shop sheet trace n b = text_from n (run (rules_of shop) n (problem_in shop sheet b) (drop n (steps_of trace)))

-- A trace's steps from step `n` on are accepted, from the problem that the record stands for.
pub record Ahead (shop sheet trace : List ℕ) (n : ℕ) (b : Problem) : Type 0 where
  pub few : length (steps_of trace) ≤ most_steps
  pub inside : n ≤ length (steps_of trace)
  pub going : Going shop sheet n b.atoms b.waiting
  pub deeds : List Deed
  pub last : State
  pub accepts : run (rules_of shop) n (problem_in shop sheet b) (drop n (steps_of trace)) ≡ accepted deeds last
