-- The turns in which the listing program makes the text of an accepted trace: each takes a step and puts its piece behind what a room holds.
-- Document 02, Req 03.
use Rattle.std.specs.Prelude.{ℕ, ◌+◌, ◌≤◌, ◌<◌, ◌≡◌, ◌⊎◌, Bool, true, List, [], ◌++◌, length, take, Option, None, Some}
use Rattle.std.proofs.Math.Option.{none}
use Rattle.hgn.specs.State.{State}
use Rattle.network.specs.declared.goals.Goals.{Goals}
use Rattle.step.specs.declared.problem.Problem.{Problem}
use Rattle.replay.specs.Running.{Prepared}
use Rattle.trace_reader.specs.TraceRows.{row_at, step_of}
use Rattle.listing_main.specs.Listed.{listing, number_to}
use Rattle.listing_main.specs.Pieces.{piece_bytes, text_ahead, Ahead}
use Rattle.listing_main.specs.declared.steps.Reached.{Reached}

-- A largest piece fits behind what a room of this size holds, or, only where it would not fit there, at its start.
abbrev pub Spaced : ℕ → ℕ → Option ℕ → Type 0
Spaced size end (Some at) = (at + piece_bytes ≤ size) × ((at ≡ end) ⊎ ((at ≡ 0) × (size < end + piece_bytes)))
Spaced size end None = Unit {0}

-- What a turn asks: some accepted trace has the step at the row of its number, and the room takes a largest piece.
pub record Turning (shop sheet : List ℕ) (at : Reached) (b : Problem) (room : List ℕ) : Type 0 where
  pub trace : List ℕ
  pub ahead : Ahead shop sheet trace at.step.number b
  pub reads : step_of (Some at.step) ≡ row_at trace at.step.number
  pub fits : at.end ≤ length room
  pub roomy : piece_bytes ≤ length room

-- The turn of row `k`, at which a step stands. It writes out nothing, or all that the room held. That, what the room holds now and the text ahead of
-- the next row are what the room held and the text ahead of row `k`.
pub record TurnOf (shop sheet trace : List ℕ) (k : ℕ) (b b' : Problem) (end : ℕ) (room : List ℕ) (end' : ℕ) (room' : List ℕ) : Type 0 where
  pub fits : end' ≤ length room'
  pub out : List ℕ
  pub all_or_none : (out ≡ []) ⊎ (out ≡ take end room)
  pub ahead : Ahead shop sheet trace (k + 1) b'
  pub text : out ++ (take end' room' ++ text_ahead shop sheet trace (k + 1) b') ≡ take end room ++ text_ahead shop sheet trace k b

-- So it is of every trace that has the step at the row. Where what the room held could not be written out, record and room are as they were.
abbrev pub Turned : List ℕ → List ℕ → Reached → Problem → List ℕ → Problem → List ℕ → Option ℕ → Type 0
Turned shop sheet at b room b' room' (Some end) = (trace : List ℕ) → Ahead shop sheet trace at.step.number b
    → step_of (Some at.step) ≡ row_at trace at.step.number
    → TurnOf shop sheet trace at.step.number b b' at.end room end room'
Turned shop sheet at b room b' room' None = (b' ≡ b) × (room' ≡ room)

-- Turns, each from the row, the record and the room that the one before it left, up to the trace's end; and what they write out, one behind the other.
-- At the trace's end no further step is read, and all that the room holds is written out.
pub data Turns (shop sheet trace : List ℕ) : ℕ → Problem → List ℕ → List ℕ → Type 0 where
  last_turn : {k : ℕ} {b : Problem} {held : List ℕ} → row_at trace k ≡ none → Turns shop sheet trace k b held held
  next_turn : {k end end' : ℕ} {b b' : Problem} {room room' rest : List ℕ} (t : TurnOf shop sheet trace k b b' end room end' room')
      → Turns shop sheet trace (k + 1) b' (take end' room') rest → Turns shop sheet trace k b (take end room) (t.out ++ rest)

-- What the turns ask: the whole trace is ahead, and the room takes a largest piece.
pub record Beginning (shop sheet trace : List ℕ) (s : State) (ws : Goals) (room : List ℕ) : Type 0 where
  pub ahead : Ahead shop sheet trace 0 (record { atoms = s; waiting = ws })
  pub roomy : piece_bytes ≤ length room

-- If all was written, the turns went from the first step to the trace's end.
abbrev pub Through : List ℕ → List ℕ → List ℕ → State → Goals → Bool → Type 0
Through shop sheet trace s ws r = r ≡ true → (text : List ℕ) × Turns shop sheet trace 0 (record { atoms = s; waiting = ws }) [] text

-- Of an accepted trace, the turns from the order's first record on write out the whole text.
abbrev pub TurnsAreWhole : Type 0
TurnsAreWhole = (shop sheet trace table : List ℕ) (b : Problem) → number_to shop sheet trace ≡ 0 → Prepared shop sheet table b
    → (text : List ℕ) → Turns shop sheet trace 0 b [] text → text ≡ listing shop sheet trace

-- If all was written, it is the text: what turns from some record on to the trace's end write out.
abbrev pub WritesAll : List ℕ → List ℕ → List ℕ → Bool → Type 0
WritesAll shop sheet trace r = r ≡ true → (b : Problem) × (text : List ℕ) × Turns shop sheet trace 0 b [] text × (text ≡ listing shop sheet trace)
