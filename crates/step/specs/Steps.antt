-- What a step of the code comes to, as the definitions have it. Document 01, "How a derivation runs"; document 02, Req 01.
use Rattle.std.specs.Prelude.{ℕ, ◌≡◌, ◌≢◌, List, Result, Ok, Err}
use Rattle.hgn.specs.Questions.{passed}
use Rattle.hgn.specs.Run as Run
use Rattle.step.specs.Failures.{failure_of, told, told_of}
use Rattle.step.specs.Taking.{problem_with, ValidGoals}
use Rattle.step.specs.declared.failure.Failure.{Failure}
use Rattle.step.specs.declared.problem.Problem.{Problem}
use Rattle.step.specs.declared.problem.Stepped as Code

-- The code's record, as a problem of the definitions.
abbrev pub problem_in : List ℕ → List ℕ → Problem → Run.Problem
problem_in shop order b = problem_with shop order b.atoms b.waiting

-- A step that comes to `o` is taken and leaves this record, whose goals have their counts.
pub record Reaches (shop order : List ℕ) (o : Run.Stepped) (b : Problem) : Type 0 where
  pub deed : Run.Deed
  pub comes : o ≡ Run.taken deed (problem_in shop order b)
  pub valid : ValidGoals shop order b.waiting

-- What a step that comes to `o` answers: the record that it leaves, or what it tells where it is refused.
abbrev pub StepAnswers : List ℕ → List ℕ → Run.Stepped → Result Problem Failure → Type 0
StepAnswers shop order o (Ok b) = Reaches shop order o b
StepAnswers shop order o (Err q) = o ≡ Run.refused (failure_of q)

-- What is shown of a step, with the record that is left: what the refused step tells, or nothing told and the problem that a taken step leaves.
abbrev pub Comes : List ℕ → List ℕ → Run.Stepped → Code.Stepped → Type 0
Comes shop order (Run.refused f) r = (told_of r.answer ≡ f) × (f.refusal.number ≢ 0)
Comes shop order (Run.taken deed P) r = (told_of r.answer ≡ told passed) × (problem_in shop order r.problem ≡ P)

-- The step that was shown comes to `o`; refused, the record is as it was; and its goals have their counts.
pub record IsStep (shop order : List ℕ) (o : Run.Stepped) (b : Problem) (r : Code.Stepped) : Type 0 where
  pub comes_to : Comes shop order o r
  pub unchanged : (told_of r.answer).refusal.number ≢ 0 → r.problem ≡ b
  pub valid : ValidGoals shop order r.problem.waiting
