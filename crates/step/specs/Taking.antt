-- One step, taken where state and waiting goals stand. Document 01, "How a derivation runs".
use Rattle.std.specs.Prelude.{ℕ, ◌<◌, ◌≡◌, true, List, Result, Ok, Err}
use Rattle.hgn.specs.State.{State}
use Rattle.hgn.specs.Network.{free, goal_at}
use Rattle.hgn.specs.Run as Run
use Rattle.hgn.specs.Run.{Problem, strict, deed_of, moved, refused, taken, stepped}
use Rattle.hgn.specs.Shop.{domain, action_count, method_count}
use Rattle.step.specs.Moves.{Known, known_of}
use Rattle.step.specs.Failures.{failure_of}
use Rattle.step.specs.Deciding.{WithinLimit}
use Rattle.step.specs.declared.moves.Move.{Move}
use Rattle.step.specs.declared.moves.Choice.{Choice}
use Rattle.step.specs.declared.failure.Failure.{Failure}
use Rattle.network.specs.declared.goals.Goals.{Goals}
use Rattle.network.specs.Pending.{PendingCounts}
use Rattle.network.specs.Goals.{count_in, list_in, counts_in}
use Rattle.network.specs.Reaching.{ReachedAt}

-- A state and the waiting goals, as a problem of the definitions.
abbrev pub problem_with : List ℕ → List ℕ → State → Goals → Problem
problem_with shop order s g = record { state = s; waiting = list_in shop order g }

-- What a step asks of the goals and leaves: their counts are right.
pub record ValidGoals (shop order : List ℕ) (g : Goals) : Type 0 where
  pub counted : PendingCounts (list_in shop order g) (counts_in g)

-- What a run keeps: such goals, and with this state they are a problem that `n` steps have led to, each within a limit of its own: a step
-- that is taken within a smaller limit is taken within 64.
pub record Going (shop order : List ℕ) (n : ℕ) (s : State) (g : Goals) : Type 0 where
  pub valid : ValidGoals shop order g
  pub reached : ReachedAt shop order n (problem_with shop order s g)

-- What applying a move asks: a known move at a free goal, and room for a method's nodes.
pub record MayApply (shop order : List ℕ) (x : Choice) (g : Goals) : Type 0 where
  pub inside : x.place.0 < count_in g
  pub known : Known (action_count shop) (method_count shop) x.mv
  pub fits : WithinLimit (domain shop) (count_in g) x.mv
  pub is_free : free (list_in shop order g) (goal_at (list_in shop order g) x.place.0) ≡ true

-- A move was applied in step `n`.
pub record Applied (shop order : List ℕ) (n : ℕ) (x : Choice) (s : State) (g : Goals) (s' : State) (g' : Goals) : Type 0 where
  pub leaves : problem_with shop order s' g' ≡ moved (domain shop) n (problem_with shop order s g) x.place.0 (known_of x.mv)
  pub valid : ValidGoals shop order g'

-- The step is taken under 000's rules with this limit.
pub record TakenBy (limit : ℕ) (shop order : List ℕ) (n : ℕ) (x : Run.Step) (m : Move) (s : State) (g : Goals) (s' : State) (g' : Goals) : Type 0 where
  pub known : Known (action_count shop) (method_count shop) m
  pub comes : stepped (strict limit (domain shop)) n (problem_with shop order s g) x
      ≡ taken (deed_of (problem_with shop order s g) x.place (known_of m)) (problem_with shop order s' g')
  pub valid : ValidGoals shop order g'

-- What a step answers under 000's rules with this limit, and what it leaves; refused, all is as it was.
abbrev pub Took : ℕ → List ℕ → List ℕ → ℕ → Run.Step → State → Goals → Result Move Failure → State → Goals → Type 0
Took limit shop order n x s g (Ok m) s' g' = TakenBy limit shop order n x m s g s' g'
Took limit shop order n x s g (Err q) s' g' =
    (stepped (strict limit (domain shop)) n (problem_with shop order s g) x ≡ refused (failure_of q)) × (s' ≡ s) × (g' ≡ g)
