-- What a call with lent room answers, and what the room holds at exit. Document 01, the last lines of "Questions".
use Rattle.std.specs.Prelude.{ℕ, List, ◌++◌, length, drop}
use Rattle.hgn.specs.Questions.{Refusal, no_refusal, Question, passed, refused, first_no}

-- The answer, and the room at exit. `Room` is the words of one room, or of several where a call is lent several.
pub record Lent (Room : Type 0) : Type 0 where
  pub refusal : Refusal
  pub room : Room

-- A refused call leaves its room as it was: "it writes nothing and answers the number and its place".
unfoldable pub unwritten : {Room : Type 0} → Room → Refusal → Lent Room
unwritten room q = record { refusal = q; room = room }

-- The room at exit has these words first, "the rest unchanged". A call asks first that the room is long enough for them.
unfoldable pub overwritten : List ℕ → List ℕ → List ℕ
overwritten words room = words ++ drop (length words) room

-- A call that asks these questions is refused by the first no; where there is none, it answers `done`.
unfoldable pub asking : {Room : Type 0} → List Question → Room → Lent Room → Lent Room
asking questions room done = elim (first_no questions) [
  | refused f ↦ unwritten room f.refusal
  | passed ↦ done
]

-- "A call that writes sheets or a list answers the same, 0 and 0 when written": its room is `before` at entry, and `after` once it has written.
unfoldable pub writing : {Room : Type 0} → List Question → Room → Room → Lent Room
writing questions before after = asking questions before (record { refusal = no_refusal; room = after })
