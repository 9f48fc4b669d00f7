-- A problem that a run of the order's goals has come to. Document 01, "How a derivation runs".
use Rattle.std.specs.Prelude.{ℕ, ◌≡◌, List, length}
use Rattle.hgn.specs.State.{State}
use Rattle.hgn.specs.Network.{Waiting}
use Rattle.hgn.specs.Run.{Step, Problem, problem_from}
use Rattle.hgn.specs.Order.{order}
use Rattle.hgn.specs.Replay.{rules_of}
use Rattle.hgn.specs.Readings.{Reached}

-- From some first state, `n` steps have led to the problem.
pub record ReachedAt (shop sheet : List ℕ) (n : ℕ) (P : Problem) : Type 0 where
  pub start : State
  pub steps : List Step
  pub reached : Reached (rules_of shop) (problem_from start (order sheet)) steps P
  pub number : length steps ≡ n

-- From some first state, `n` steps have led to a problem in which this list waits.
abbrev pub ListReached : List ℕ → List ℕ → ℕ → List Waiting → Type 0
ListReached shop sheet n w = (s : State) × ReachedAt shop sheet n (record { state = s; waiting = w })
