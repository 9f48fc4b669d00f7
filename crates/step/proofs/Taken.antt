-- What is shown of a step, from what it answers, and what holds of the record for the next step. Assumes nothing.
use Prim.Native.Nat.{ℕ, ◌+◌, ◌≤◌}
use native.Mathlib.Numerals.{add-one}
use mathlib.Core.Path.{◌≡◌, refl, sym, ap, subst, ◌∙◌}
use mathlib.Core.Logic.{◌≢◌}
use mathlib.Core.List.{List}
use Rattle.std.specs.Prelude.{Result, Ok, Err}
use Rattle.hgn.specs.Questions as Questions
use Rattle.hgn.specs.Network.{most_waiting}
use Rattle.hgn.specs.Run as Run
use Rattle.hgn.specs.Run.{Step, strict, stepped}
use Rattle.hgn.specs.Shop.{domain}
use Rattle.step.specs.Failures.{told_of}
use Rattle.sheet_rows.proofs.Laws.{numbered}
use Rattle.step.specs.declared.failure.Failure.{Failure}
use Rattle.step.specs.Steps.{problem_in, Comes, IsStep, StepAnswers}
use Rattle.step.specs.Taking.{ValidGoals, Going}
use Rattle.step.specs.declared.problem.Problem.{Problem}
use Rattle.step.specs.declared.problem.Stepped as Code
use Rattle.network.specs.Reaching.{ReachedAt}
use Rattle.network.proofs.Reaching.{reached_next}
use Rattle.step.proofs.TakenSteps.{within_most}

-- What is shown of a step, from what it answers.
module _ (shop order : List ℕ) (o : Run.Stepped) (b : Problem) where
  pub step_refused : {q : Failure} (r : Code.Stepped) → StepAnswers shop order o (Err q) → ValidGoals shop order b.waiting → r.answer ≡ Err q → r.problem ≡ b
      → IsStep shop order o b r
  step_refused {q} r said valid f p = record {
    comes_to = subst (λ o. Comes shop order o r) (sym said) (ap told_of f, numbered q.refusal.question);
    unchanged = λ z. p;
    valid = subst (λ (c : Problem). ValidGoals shop order c.waiting) (sym p) valid;
  }

  pub step_taken : {next : Problem} {u : Unit} (r : Code.Stepped) → StepAnswers shop order o (Ok next) → r.answer ≡ Ok u → r.problem ≡ next
      → IsStep shop order o b r
  step_taken r said z p = record {
    comes_to = subst (λ o. Comes shop order o r) (sym said.comes) (ap told_of z, ap (problem_in shop order) p);
    unchanged = λ y. absurd (y (ap (λ (q : Result Unit Failure). (told_of q).refusal.number) z));
    valid = subst (λ (c : Problem). ValidGoals shop order c.waiting) (sym p) said.valid;
  }

-- What holds of the record after a step, for the next: a step that is taken is counted, one that is refused isn't.
module _ (limit : ℕ) (few : limit ≤ most_waiting) {shop order : List ℕ} {n : ℕ} (x : Step) {b : Problem} {r : Code.Stepped}
    (going : Going shop order n b.atoms b.waiting)
    (is : IsStep shop order (stepped (strict limit (domain shop)) n (problem_in shop order b) x) b r) where
  pub going_taken : (told_of r.answer).refusal.number ≡ 0 → Going shop order (n + 1) r.problem.atoms r.problem.waiting
  going_taken z = go (stepped (strict limit (domain shop)) n (problem_in shop order b) x) refl is.comes_to
    where
      go : (o : Run.Stepped) → stepped (strict limit (domain shop)) n (problem_in shop order b) x ≡ o → Comes shop order o r
          → Going shop order (n + 1) r.problem.atoms r.problem.waiting
      go (Run.refused q) e c = absurd (c.1 (sym (ap (λ (k : Questions.Failure). k.refusal.number) c.0) ∙ z))
      go (Run.taken deed P) e c = record {
        valid = is.valid;
        reached =
            subst (λ (k : ℕ). ReachedAt shop order k (problem_in shop order r.problem)) (sym (add-one n))
            (subst (ReachedAt shop order _) (sym c.1) (reached_next x going.reached (within_most shop few n _ x e)));
      }

  pub going_refused : (told_of r.answer).refusal.number ≢ 0 → Going shop order n r.problem.atoms r.problem.waiting
  going_refused z = subst (λ (p : Problem). Going shop order n p.atoms p.waiting) (sym (is.unchanged z)) going
