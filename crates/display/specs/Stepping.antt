-- A trace stepped through on the display, and the promises that it shows what the replay answers and that it can be stepped through.
-- Document 01, "How a derivation runs" and "Questions"; document 02, Req 01.
use Rattle.std.specs.Prelude.{ℕ, zero, suc, ◌+◌, ◌≡◌, refl, cond, List, [], ◌∷◌, Result, eqb, take}
use Rattle.hgn.specs.Questions.{failed_at}
use Rattle.hgn.specs.Run.{Step, move_of, problem_of, deed_of, Outcome, stopped, prepend, ended}
use Rattle.hgn.specs.Shop.{domain}
use Rattle.hgn.specs.Order.{order}
use Rattle.hgn.specs.Trace.{step_count, steps_of}
use Rattle.hgn.specs.Replay.{rules_of, Replayed, reported, replay}
use Rattle.hgn.specs.Readings.{Reached}
use Rattle.hgn.specs.Demands.{InputsPass}
use Rattle.step.specs.Steps.{problem_in}
use Rattle.step.specs.Taking.{Going}
use Rattle.replay.specs.Running.{Prepared}
use Rattle.step.specs.Failures.{told_of}
use Rattle.step.specs.declared.failure.Failure.{Failure}
use Rattle.step.specs.declared.problem.Problem.{Problem}
use Rattle.display.specs.Forward.{Forward}

-- A call of the display for step `x`, the trace's step number `n`, at the record that it holds.
pub record StepCall (shop sheet : List ℕ) (n : ℕ) (x : Step) (before : Problem) : Type 0 where
  pub answer : Result (Unit {0}) Failure
  pub after : Problem
  pub forward : Forward shop sheet n x before answer after

-- The number of the step after one that gave this answer: a step that is refused isn't counted.
abbrev pub next_number : ℕ → ℕ → ℕ
next_number n answer = cond (eqb answer 0) (n + 1) n

-- A call for each step from step number `n` on, each at the record that the one before it left, up to the first that is refused.
unfoldable pub Calls : List ℕ → List ℕ → ℕ → Problem → List Step → Type 0
Calls shop sheet n b [] = Unit {0}
Calls shop sheet n b (x ∷ xs) = (c : StepCall shop sheet n x b) × ((told_of c.answer).refusal.number ≡ 0 → Calls shop sheet (suc n) c.after xs)

-- Stepping goes on as `next` says where a step answers 0, and ends at any other number.
unfoldable pub onward : {A : Type 0} → A → (number : ℕ) → (number ≡ 0 → A) → A
onward here zero next = next refl
onward here (suc number) next = here

-- What they show: the first number that is not 0, at its step, with its atom; or, after the last step, with nothing waiting what the moves
-- did and the record's state, and else 33.
unfoldable pub shown_by : (shop sheet : List ℕ) (n : ℕ) (b : Problem) (xs : List Step) → Calls shop sheet n b xs → Outcome
unfolding Calls
shown_by shop sheet n b [] cs = ended n (problem_in shop sheet b)
shown_by shop sheet n b (x ∷ xs) cs =
    onward (stopped (failed_at n (told_of cs.0.answer))) (told_of cs.0.answer).refusal.number
    (λ e. prepend (deed_of (problem_in shop sheet b) x.place (move_of (domain shop) x.move)) (shown_by shop sheet (suc n) cs.0.after xs (cs.1 e)))

-- The record that they leave.
unfoldable pub left_by : (shop sheet : List ℕ) (n : ℕ) (b : Problem) (xs : List Step) → Calls shop sheet n b xs → Problem
unfolding Calls
left_by shop sheet n b [] cs = b
left_by shop sheet n b (x ∷ xs) cs =
    onward cs.0.after (told_of cs.0.answer).refusal.number (λ e. left_by shop sheet (suc n) cs.0.after xs (cs.1 e))

-- What stepping through a trace shows, on sheets that pass with room enough, from the order's first record.
pub record ShowsReplay (shop sheet trace room : List ℕ) (c : Replayed) (b : Problem) (cs : Calls shop sheet 0 b (steps_of trace)) : Type 0 where
  -- Stepping through a trace tells exactly what the replay answers and writes: the same number and atom at the same step, or, with nothing waiting
  -- at the end, its state, plan and cost. The display itself shows refusals and a record; plan and cost are those of the moves that it was
  -- handed.
  pub tells : c ≡ reported (domain shop) (step_count trace) room (shown_by shop sheet 0 b (steps_of trace) cs)
  -- The record left is the problem that the steps before the place answered lead to: refused, all steps before that which is refused;
  -- accepted, or refused by 33, all.
  pub leaves : Reached (rules_of shop) (problem_of (order sheet)) (take c.answer.refusal.place (steps_of trace))
      (problem_in shop sheet (left_by shop sheet 0 b (steps_of trace) cs))

abbrev pub DisplayShowsReplay : Type 0
DisplayShowsReplay = (shop sheet trace room : List ℕ) (c : Replayed) → InputsPass shop sheet trace room → c ≡ replay shop sheet trace room
    → (b : Problem) → problem_in shop sheet b ≡ problem_of (order sheet) → (cs : Calls shop sheet 0 b (steps_of trace))
    → ShowsReplay shop sheet trace room c b cs

-- A trace can be stepped through. The order's first record stands for the order's problem, as `DisplayShowsReplay` asks, and has what a call
-- asks of its record. So has the record that a call leaves: at the next number where the step was taken, at the same number where it was
-- refused.
pub record DisplayGoesOn : Type 0 where
  pub begins : (shop sheet table : List ℕ) (b : Problem) → Prepared shop sheet table b
      → (problem_in shop sheet b ≡ problem_of (order sheet)) × Going shop sheet 0 b.atoms b.waiting
  pub goes_on : (shop sheet : List ℕ) (n : ℕ) (x : Step) (b : Problem) (c : StepCall shop sheet n x b) → Going shop sheet n b.atoms b.waiting
      → Going shop sheet (next_number n (told_of c.answer).refusal.number) c.after.atoms c.after.waiting
