-- A line of the listing as the code has it, and what a step tells. Document 02, Req 03.
use Rattle.std.specs.Prelude.{ℕ, ◌+◌, ◌<◌, ◌≡◌, List, [], ◌∷◌, map, Option, None, Some}
use Rattle.hgn.specs.State.{State}
use Rattle.hgn.specs.Network.{most_waiting, step_number, method_number}
use Rattle.hgn.specs.Run.{Step, Problem, Deed, move_of, deed_of, taken, stepped}
use Rattle.hgn.specs.Listing as Listing
use Rattle.hgn.specs.Listing.{lines_at}
use Rattle.hgn.specs.Shop.{domain}
use Rattle.hgn.specs.Replay.{rules_of}
use Rattle.network.specs.Goals.{count_in}
use Rattle.network.specs.declared.goals.Goals.{Goals}
use Rattle.network.specs.Reaching.{ReachedAt}
use Rattle.step.specs.Taking.{problem_with, Going}
use Rattle.listing.specs.declared.line.Line.{Line}

-- A line's four numbers: 65,535 twice for a goal of the order.
abbrev pub numbers_of : Listing.Line → Line
numbers_of l = record { above = l.above; released = l.released; brought = step_number l.source; method = method_number l.source }

-- What is told, as lines: the line of the goal that the step releases, or none.
abbrev pub lines_told : Option Line → List Line
lines_told (Some l) = l ∷ []
lines_told None = []

-- Above each goal stand fewer goals than may wait.
abbrev pub Narrow : List Line → Type 0
Narrow [] = Unit {0}
Narrow (l ∷ ls) = (l.above < most_waiting) × Narrow ls

-- Told before step `n` is taken: the lines of what its move does, at a problem with these goals that a run has come to.
abbrev pub TellsMove : Goals → ℕ → Step → Option Line → Type 0
TellsMove ws n x told = (shop order : List ℕ) (k : ℕ) (s : State) → ReachedAt shop order k (problem_with shop order s ws) → x.place < count_in ws
    → lines_told told ≡ map numbers_of (lines_at n (deed_of (problem_with shop order s ws) x.place (move_of (domain shop) x.move)))

-- The lines of step `n`, which did this, are told; the atoms and the goals are those of the problem that it left; and the next step may follow.
pub record Follows (shop order : List ℕ) (n : ℕ) (deed : Deed) (P : Problem) (told : Option Line) (s : State) (ws : Goals) : Type 0 where
  pub lines : lines_told told ≡ map numbers_of (lines_at n deed)
  pub narrow : Narrow (lines_told told)
  pub leaves : problem_with shop order s ws ≡ P
  pub going : Going shop order (n + 1) s ws

-- What a step tells and leaves, if it is taken. Of a step that is refused nothing is said.
abbrev pub StepTold : List ℕ → List ℕ → ℕ → Step → State → Goals → Option Line → State → Goals → Type 0
StepTold shop order n x s ws told s' ws' = (deed : Deed) (P : Problem) → stepped (rules_of shop) n (problem_with shop order s ws) x ≡ taken deed P
    → Follows shop order n deed P told s' ws'
