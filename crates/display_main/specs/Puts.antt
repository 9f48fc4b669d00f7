-- What the code puts behind the front of a text, said of every pair of sheets in which the rows of the waiting goals may stand.
-- Document 01, "How a derivation runs".
use Rattle.std.specs.Prelude.{ℕ, ◌<◌, ◌≡◌, List, ◌++◌}
use Rattle.hgn.specs.Network.{goal_at}
use Rattle.hgn.specs.Run as Run
use Rattle.network.specs.Pending.{PendingCounts}
use Rattle.network.specs.declared.goals.Goals.{Goals}
use Rattle.network.specs.Goals.{count_in, list_in, counts_in}
use Rattle.step.specs.Steps.{problem_in, Comes}
use Rattle.step.specs.Taking.{ValidGoals}
use Rattle.step.specs.declared.problem.Problem.{Problem}
use Rattle.step.specs.declared.problem.Stepped as Code
use Rattle.display_main.specs.Moments.{goal_text, goals_text, moment_text, turn_text}

-- The line of the goal at a place, where one waits.
abbrev pub GoalPut : Goals → ℕ → List ℕ → List ℕ → Type 0
GoalPut ws p front text = (shop order : List ℕ) → PendingCounts (list_in shop order ws) (counts_in ws) → p < count_in ws
    → text ≡ front ++ goal_text (list_in shop order ws) (goal_at (list_in shop order ws) p)

-- The lines of the waiting goals.
abbrev pub GoalsPut : Goals → List ℕ → List ℕ → Type 0
GoalsPut ws front text = (shop order : List ℕ) → PendingCounts (list_in shop order ws) (counts_in ws)
    → text ≡ front ++ goals_text (list_in shop order ws) (list_in shop order ws)

-- The moment of a record after so many steps.
abbrev pub MomentPut : ℕ → Problem → List ℕ → List ℕ → Type 0
MomentPut number b front text = (shop order : List ℕ) → ValidGoals shop order b.waiting → text ≡ front ++ moment_text number (problem_in shop order b)

-- The whole text of what step `n` comes to.
abbrev pub TurnPut : ℕ → Run.Step → Code.Stepped → List ℕ → Type 0
TurnPut n x shown text = (shop order : List ℕ) (o : Run.Stepped) → Comes shop order o shown → ValidGoals shop order shown.problem.waiting
    → text ≡ turn_text n x o
