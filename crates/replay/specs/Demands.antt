-- The demands of document 00 and Req 01 of document 02, read of the call `replay`: what hgn's `specs/Demands.antt` says of a replay's answer
-- and room, said of those that the call gives. `Replays` is its contract, for whatever words are lent, and that of `replay_into` too, whose
-- answer is `with_state` of the atoms that it leaves. A value of `Promised` stands in `proofs/CallDemands.antt`.
use Rattle.std.specs.Prelude.{ℕ, ◌≡◌, List}
use Rattle.hgn.specs.Replay.{replay}
use Rattle.hgn.specs.Demands.{InputsPass, ReplayAnswers, IsDefinition1, ReplayCall, NamesUnmet, TellsFirstUnmet}
use Rattle.hgn.specs.Demands as Demands
use Rattle.replay.specs.Answers.{Answer, replayed_of}

abbrev pub Replays : List ℕ → List ℕ → List ℕ → List ℕ → Answer → List ℕ → Type 0
Replays shop sheet trace room r exit = replayed_of r exit ≡ replay shop sheet trace room

-- The unmet atom of the answer: it is named exactly where 29 or 30 is told, and it is the first.
pub record UnmetOfCall (shop sheet trace : List ℕ) (r : Answer) (exit : List ℕ) : Type 0 where
  pub named : NamesUnmet shop (replayed_of r exit)
  pub first : TellsFirstUnmet shop sheet trace (replayed_of r exit)

-- What is proved of every call: demand 1, demand 2, what its unmet atom is, and that on sheets that pass, with room enough, it is one of the
-- replays of which hgn's `Demand3OfReplays` speaks, with this answer and this room.
pub record OfCall (shop sheet trace room : List ℕ) (r : Answer) (exit : List ℕ) : Type 0 where
  pub demand_1 : ReplayAnswers shop sheet trace room (replayed_of r exit)
  pub demand_2 : IsDefinition1 shop sheet trace room (replayed_of r exit)
  pub is_call : InputsPass shop sheet trace room → (k : ReplayCall shop sheet trace) × (k.result ≡ replayed_of r exit) × (k.room ≡ room)
  pub unmet : UnmetOfCall shop sheet trace r exit

pub record Promised : Type 1 where
  pub of_call : (shop sheet trace room : List ℕ) (r : Answer) (exit : List ℕ) → Replays shop sheet trace room r exit
      → OfCall shop sheet trace room r exit
  -- All that hgn's page of demands says; demand 3 of replays is about the calls of `is_call`.
  pub definitions : Demands.Promised
