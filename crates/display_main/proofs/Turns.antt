-- The parts of a moment, and those of a turn, stand one behind the other. Assumes nothing.
use Prim.Native.Nat.{ℕ, ◌+◌}
use mathlib.Core.Path.{◌≡◌, sym, ap, ap₂, ◌∙◌}
use mathlib.Core.Logic.{◌≢◌}
use mathlib.Core.List.{List, ◌++◌, append_assoc}
use lib.ListN.{length}
use Rattle.hgn.specs.Questions as Questions
use Rattle.hgn.specs.Run as Run
use Rattle.network.specs.Goals.{count_in}
use Rattle.network.proofs.WaitingGoals.{list_length}
use Rattle.step.specs.Failures.{told_of}
use Rattle.step.specs.Steps.{problem_in}
use Rattle.step.specs.declared.problem.Problem.{Problem}
use Rattle.step.specs.declared.problem.Stepped as Code
use Rattle.display_main.specs.Moments.{three_text, true_atoms, number_lines, goals_text, moment_text, step_text, turn_text}
use Rattle.display_main.specs.Puts.{GoalsPut, MomentPut, TurnPut}

pub moment_is : (number count waits : ℕ) (b : Problem) (front : List ℕ) {t1 t2 t3 : List ℕ} → count ≡ length (true_atoms b.atoms) → waits ≡ count_in b.waiting
    → t1 ≡ front ++ three_text number count waits → t2 ≡ t1 ++ number_lines (true_atoms b.atoms) → GoalsPut b.waiting t2 t3 → MomentPut number b front t3
unfolding moment_text
moment_is number count waits b front n w first second third shop order valid =
    let P = problem_in shop order b in
    let counted : three_text number count waits ≡ three_text number (length (true_atoms b.atoms)) (length P.waiting) =
    ap₂ {C = List ℕ} (λ (i j : ℕ). three_text number i j) n (w ∙ sym (list_length shop order b.waiting)) in
    third shop order valid.counted
    ∙ ap {B = List ℕ} (λ l. l ++ goals_text P.waiting P.waiting) (second
    ∙ ap {B = List ℕ} (λ l. l ++ number_lines (true_atoms b.atoms)) (first ∙ ap {B = List ℕ} (λ l. front ++ l) counted))
    ∙ simp append_assoc

-- The text of a step that is taken: the code's answer is 0, so the definition's step was taken too.
pub turn_taken : (n : ℕ) (x : Run.Step) (shown : Code.Stepped) (line : List ℕ) {text : List ℕ} → (told_of shown.answer).refusal.number ≡ 0
    → line ≡ step_text x (told_of shown.answer).refusal.number (told_of shown.answer).atom → MomentPut (n + 1) shown.problem line text → TurnPut n x shown text
unfolding turn_text
turn_taken n x shown line z e put shop order (Run.refused f) comes valid =
    absurd (comes.1 (sym (ap (λ (q : Questions.Failure). q.refusal.number) comes.0) ∙ z))
turn_taken n x shown line z e put shop order (Run.taken deed P) comes valid =
    put shop order valid
    ∙ ap₂ {C = List ℕ} (λ l (Q : Run.Problem). l ++ moment_text (n + 1) Q)
    (e ∙ ap {B = List ℕ} (λ (q : Questions.Failure). step_text x q.refusal.number q.atom) comes.0) comes.1

-- The text of a step that is refused is its line.
pub turn_refused : (n : ℕ) (x : Run.Step) (shown : Code.Stepped) {text : List ℕ} → (told_of shown.answer).refusal.number ≢ 0
    → text ≡ step_text x (told_of shown.answer).refusal.number (told_of shown.answer).atom → TurnPut n x shown text
unfolding turn_text
turn_refused n x shown z e shop order (Run.refused f) comes valid =
    e ∙ ap {B = List ℕ} (λ (q : Questions.Failure). step_text x q.refusal.number q.atom) comes.0
turn_refused n x shown z e shop order (Run.taken deed P) comes valid =
    absurd (z (ap (λ (q : Questions.Failure). q.refusal.number) comes.0))
