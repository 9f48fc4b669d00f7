-- The whole text that the display program prints, and how many bytes of it went out. Document 01, "How a derivation runs" and "Questions" 21 to 32.
use Rattle.std.specs.Prelude.{ℕ, suc, ◌+◌, ◌≤◌, ◌≡◌, List, [], ◌∷◌, ◌++◌, length, Option, None, Some}
use Rattle.hgn.specs.Questions as Questions
use Rattle.hgn.specs.Questions.{Verdict, passed}
use Rattle.hgn.specs.Run.{Rules, Step, Problem, problem_of, refused, taken, stepped}
use Rattle.hgn.specs.Order.{order, check_order}
use Rattle.hgn.specs.Trace.{steps_of, check_trace}
use Rattle.hgn.specs.Replay.{rules_of}
use Rattle.step.specs.Steps.{problem_in}
use Rattle.step.specs.Taking.{ValidGoals}
use Rattle.step.specs.declared.problem.Problem as Code
use Rattle.display_main.specs.Moments.{moment_text, turn_text, moment_bytes}

-- The text of the steps from step number `n` on, up to the last or to the first that is refused.
unfoldable pub turns_text : Rules → ℕ → Problem → List Step → List ℕ
turns_text r n P [] = []
turns_text r n P (x ∷ xs) = turn_text n x (stepped r n P x) ++ elim (stepped r n P x) [
  | refused f ↦ []
  | taken deed P' ↦ turns_text r (suc n) P' xs
]

-- The text of a trace's steps, from the order's own first state.
unfoldable pub steps_text : List ℕ → List ℕ → List ℕ → List ℕ
steps_text shop sheet trace = turns_text (rules_of shop) 0 (problem_of (order sheet)) (steps_of trace)

-- A text where a check has passed, and nothing where it has not.
unfoldable pub if_passed : Verdict → List ℕ → List ℕ
if_passed passed text = text
if_passed (Questions.refused f) text = []

-- The text for three sheets: of an order that does not pass, nothing; else the first moment and, of a trace that passes, its steps.
unfoldable pub shown_text : List ℕ → List ℕ → List ℕ → List ℕ
shown_text shop sheet trace =
    if_passed (check_order shop sheet) (moment_text 0 (problem_of (order sheet)) ++ if_passed (check_trace shop sheet trace) (steps_text shop sheet trace))

-- All of a text went out behind so many bytes, and its bytes were counted: which bytes a call of the operating system writes no contract can say,
-- so the count ties what was handed to it to the text. Where not all went out, how much did is left free.
abbrev pub Writes : ℕ → List ℕ → Option ℕ → Type 0
Writes before text (Some n) = n ≡ before + length text
Writes before text None = Unit {0}

-- No more bytes than a moment has.
abbrev pub FewBytes : Option ℕ → Type 0
FewBytes (Some n) = n ≤ moment_bytes
FewBytes None = Unit {0}

-- The first moment of a record went out, whatever sheets the rows of its goals stand in.
abbrev pub FirstWritten : Code.Problem → Option ℕ → Type 0
FirstWritten b r = (shop sheet : List ℕ) → ValidGoals shop sheet b.waiting → Writes 0 (moment_text 0 (problem_in shop sheet b)) r
