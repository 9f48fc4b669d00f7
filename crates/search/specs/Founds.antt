-- The steps that the code has found, and the call's answer, as the definitions have them. Document 01, "Questions".
use Rattle.std.specs.Prelude.{ℕ, ◌≤◌, ◌≡◌, ◌⊎◌, take, drop, Result, Ok, Err}
use Rattle.std.specs.Prelude as Std
use mathlib.Core.List.{List, map}
use Rattle.std.proofs.Math.Option.{Option, none, some}
use Rattle.hgn.specs.Run.{Step}
use Rattle.hgn.specs.Trace.{step}
use Rattle.hgn.specs.Search.{Searched}
use Rattle.sheet_rows.specs.Refusals.{found_of}
use Rattle.sheet_rows.specs.declared.refusal.Refusal.{Refusal}
use Rattle.search.specs.declared.found.Step as Code
use Rattle.search.specs.declared.found.Steps.{Steps}
use Rattle.search.specs.declared.found.Exhausted.{Exhausted}
use Rattle.search.specs.declared.shortest.Shortest.{Shortest}

-- The answer, of a trace found 0 and its length, and the room at exit.
abbrev pub searched_of : Result ℕ Refusal → List ℕ → Searched
searched_of r exit = record { refusal = found_of r; room = exit }

-- A step that the code has found, as the definitions have it.
abbrev pub step_found : Code.Step → Step
step_found s = step s.mv s.place.0

-- `k` steps, from step `n` on.
unfoldable pub steps_from : ℕ → ℕ → Steps → List Step
steps_from n k s = map step_found (take k (drop n s.listed))

-- For which lengths a search of `left` steps that found nothing tells that there is nothing: for its own, and for every longer one where
-- no branch ran out of steps.
abbrev pub Covers : ℕ → ℕ → ℕ → Type 0
Covers exhausted left k = (k ≡ left) ⊎ ((exhausted ≡ 0) × (left ≤ k))

-- What a search told, from step `n` on with `left` steps: `search k` is what there is to find with k.
abbrev pub Finds : (ℕ → Option (List Step)) → ℕ → ℕ → Result Steps Exhausted → Type 0
Finds search n left (Ok s) = search left ≡ some (steps_from n left s)
Finds search n left (Err e) = (k : ℕ) → Covers e.0 left k → search k ≡ none

-- What a search told that leaves the steps that it finds in lent room.
abbrev pub left_in : {A : Type 0} → Steps → Result A Exhausted → Result Steps Exhausted
left_in s (Ok _) = Ok s
left_in s (Err e) = Err e

-- The steps of a trace found, all that it has.
abbrev pub steps_of : Shortest → List Step
steps_of r = steps_from 0 r.length r.steps

abbrev pub shortest_of : Std.Option Shortest → Option (List Step)
shortest_of Std.None = none
shortest_of (Std.Some r) = some (steps_of r)

-- What a search told that leaves the steps that it finds in lent room: how many there are.
abbrev pub shortest_in : Steps → Std.Option ℕ → Std.Option Shortest
shortest_in s Std.None = Std.None
shortest_in s (Std.Some n) = Std.Some (record { length = n; steps = s })
