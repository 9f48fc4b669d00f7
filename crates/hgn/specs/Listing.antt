-- The listing of a derivation: a line for each goal that a run releases, in the order of release. Document 02, Req 03. The text of a line
-- stands in `listing_main/specs/Listed.antt`.
use Rattle.std.specs.Prelude.{ℕ, suc, ◌+◌, List, [], ◌∷◌, ◌++◌, map}
use Rattle.hgn.specs.Network.{Source, used}
use Rattle.hgn.specs.Network as Network
use Rattle.hgn.specs.Run.{Leaving, Deed, releases, takes, uses, problem_of, stopped, accepted, run}
use Rattle.hgn.specs.Order.{order}
use Rattle.hgn.specs.Trace.{steps_of}
use Rattle.hgn.specs.Replay.{rules_of}

-- A line: how many goals stand above the goal, the step that released it, and what brought it in, by the step and the method
-- (`step_number` and `method_number` of `Network`).
pub record Line : Type 0 where
  pub above : ℕ
  pub released : ℕ
  pub source : Source

-- The line of a goal that leaves the list in step `n`.
abbrev pub line_of : ℕ → Leaving → Line
line_of n g = record { above = g.above; released = n; source = g.goal.source }

-- The lines of what step `n` did.
unfoldable pub lines_at : ℕ → Deed → List Line
lines_at n (releases goals) = map (line_of n) goals
lines_at n (takes k) = []
lines_at n (uses m g) = []

-- The lines of what the steps from step `n` on did, "in the order of release".
unfoldable pub lines_of : ℕ → List Deed → List Line
lines_of n [] = []
lines_of n (deed ∷ deeds) = lines_at n deed ++ lines_of (suc n) deeds

-- The lines of the run of a trace, where it is accepted. Of a run that is refused there are none, whatever it released. No question of a sheet is asked
-- here: the program replays first.
unfoldable pub lines_in : List ℕ → List ℕ → List ℕ → List Line
lines_in shop sheet trace = elim (run (rules_of shop) 0 (problem_of (order sheet)) (steps_of trace)) [
  | stopped f ↦ []
  | accepted deeds last ↦ lines_of 0 deeds
]

-- In the back of a trace "step numbers […] count from the whole trace's first step, so they are the back's own plus the cut; 65,535 is not
-- raised".
abbrev pub later_source : ℕ → Source → Source
later_source cut Network.order = Network.order
later_source cut (used step method) = used (cut + step) method

abbrev pub later_line : ℕ → Line → Line
later_line cut l = record { above = l.above; released = cut + l.released; source = later_source cut l.source }
