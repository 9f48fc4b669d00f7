-- The demands of document 00, read of the call `search`: what hgn's `specs/Demands.antt` says of a search's answer and room, said of those
-- that the call gives. `Searches` is its contract, for whatever words and depth. A value of `Promised` stands in `proofs/CallDemands.antt`.
use Rattle.std.specs.Prelude.{ℕ, ◌≡◌, List, Result}
use Rattle.hgn.specs.Search.{search}
use Rattle.hgn.specs.Demands.{SearchAnswers, IsFirstOfShortest, SearchAndReplay}
use Rattle.sheet_rows.specs.declared.refusal.Refusal.{Refusal}
use Rattle.search.specs.Founds.{searched_of}

abbrev pub Searches : List ℕ → List ℕ → ℕ → List ℕ → Result ℕ Refusal → List ℕ → Type 0
Searches shop sheet depth room r exit = searched_of r exit ≡ search shop sheet depth room

-- What is proved of every call: demand 1, demand 2, and that it and the replay agree on what is accepted.
pub record OfCall (shop sheet : List ℕ) (depth : ℕ) (room : List ℕ) (r : Result ℕ Refusal) (exit : List ℕ) : Type 0 where
  pub demand_1 : SearchAnswers shop sheet depth room (searched_of r exit)
  pub demand_2 : IsFirstOfShortest shop sheet depth room (searched_of r exit)
  pub agrees : SearchAndReplay shop sheet depth room (searched_of r exit)

abbrev pub Promised : Type 0
Promised = (shop sheet : List ℕ) (depth : ℕ) (room : List ℕ) (r : Result ℕ Refusal) (exit : List ℕ) → Searches shop sheet depth room r exit
    → OfCall shop sheet depth room r exit
