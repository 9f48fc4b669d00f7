-- What the search program prints and writes. Document 01, "Questions", the search, and "One core of sixty centimetres", for the line and the files.
use Rattle.std.specs.Prelude.{ℕ, ◌+◌, ◌*◌, ◌≡◌, ◌≢◌, List, take, replicate, MatchOption}
use Rattle.hgn.specs.Search.{Searched, search, most_depth}
use Rattle.hgn.specs.Trace.{size_words}
use Rattle.sheet_files.specs.Words.{shop_words, order_words, bytes_of}
use Rattle.sheet_files.specs.Texts.{answer_line}
use Rattle.sheet_files.specs.declared.written.Answer.{Answer}

-- The words of the longest trace that a search finds.
abbrev pub room_words : ℕ
room_words = size_words + 2 * most_depth

-- The search of the bytes of two files, with room lent for the longest trace that it finds.
abbrev pub searched : List ℕ → List ℕ → ℕ → Searched
searched shop order depth = search (shop_words shop) (order_words order) depth (replicate room_words 0)

-- The line on standard output. It is printed of a search that found nothing, and of one that found a trace once its file is written.
unfoldable pub printed : List ℕ → List ℕ → ℕ → List ℕ
printed shop order depth = answer_line (searched shop order depth).refusal

-- The trace of so many steps that stands first in a room: "A search writes the trace into the first 1 + 2L words".
unfoldable pub trace_in : ℕ → List ℕ → List ℕ
trace_in steps room = take (size_words + 2 * steps) room

-- The bytes of the file `trace`, where the search answers 0 and L.
unfoldable pub trace_file : List ℕ → List ℕ → ℕ → List ℕ
trace_file shop order depth = bytes_of (trace_in (searched shop order depth).refusal.place (searched shop order depth).room)

-- The most bytes of that file.
abbrev pub file_bytes : ℕ
file_bytes = 2 * room_words

-- What the code answers for the bytes of two files: how many bytes of the line stand first in a room, and, of a search that found a trace, how many
-- of its file in another. A refused search has no file.
abbrev pub Answers : List ℕ → List ℕ → ℕ → List ℕ → List ℕ → Answer → Type 0
Answers shop order depth line file a =
    (take a.line line ≡ printed shop order depth)
    × MatchOption a.file ((searched shop order depth).refusal.number ≢ 0)
    (λ size. ((searched shop order depth).refusal.number ≡ 0) × (take size file ≡ trace_file shop order depth))
