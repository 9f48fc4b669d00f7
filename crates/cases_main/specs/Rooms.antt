-- The room that a case lends.
use Rattle.std.specs.Prelude.{ℕ, ◌+◌, ◌%◌, ◌<◌, ◌≡◌, List, length, get_or}

-- The words of the longest room.
abbrev pub most_room : ℕ
most_room = 65535

-- What the word at a place holds before a call.
abbrev pub blank_at : ℕ → ℕ
blank_at i = 40000 + i % 20000

-- A room of so many words, as it is before a call.
pub record Blank (words : ℕ) (room : List ℕ) : Type 0 where
  pub long : length room ≡ words
  pub holds : (i : ℕ) → i < words → get_or room i 0 ≡ blank_at i
