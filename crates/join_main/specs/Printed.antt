-- What the join program prints and writes. Document 02, Req 02; document 01, "One core of sixty centimetres", for the line and the files.
use Rattle.std.specs.Prelude.{ℕ, ◌+◌, ◌*◌, ◌≡◌, ◌≢◌, List, take, replicate, Option, MatchOption}
use Rattle.hgn.specs.Lent.{Lent}
use Rattle.hgn.specs.Rows.{most_rows}
use Rattle.hgn.specs.Order.{size_words}
use Rattle.hgn.specs.JoinSheet.{write_join, sheet_in}
use Rattle.sheet_files.specs.Words.{shop_words, order_words, bytes_of}
use Rattle.sheet_files.specs.Texts.{answer_line}
use Rattle.sheet_files.specs.declared.written.Answer.{Answer}

-- The words of the largest order.
abbrev pub room_words : ℕ
room_words = size_words + 2 * most_rows

-- The join of the bytes of a shop's file and of two orders', with room lent for the largest order.
abbrev pub joined : List ℕ → List ℕ → List ℕ → Lent (List ℕ)
joined shop first second = write_join (shop_words shop) (order_words first) (order_words second) (replicate room_words 0)

-- The line on standard output. It is printed of a join that is refused, and of one that is written once its file is there.
unfoldable pub printed : List ℕ → List ℕ → List ℕ → List ℕ
printed shop first second = answer_line (joined shop first second).refusal

-- The bytes of the file `order`, where the join answers 0.
unfoldable pub order_file : List ℕ → List ℕ → List ℕ → List ℕ
order_file shop first second = bytes_of (sheet_in (joined shop first second).room)

-- The most bytes of that file.
abbrev pub file_bytes : ℕ
file_bytes = 2 * room_words

-- What the code answers for one shop: how many bytes of the line stand first in a room, and, of a join that is written, how many of its file in
-- another. A refused join has no file.
abbrev pub Joins : List ℕ → List ℕ → List ℕ → List ℕ → List ℕ → Answer → Type 0
Joins shop first second line file a =
    (take a.line line ≡ printed shop first second)
    × MatchOption a.file ((joined shop first second).refusal.number ≢ 0)
    (λ size. ((joined shop first second).refusal.number ≡ 0) × (take size file ≡ order_file shop first second))

-- What the code answers for two shop sheets: where their words differ, nothing is joined; else it joins by the first.
abbrev pub Answers : List ℕ → List ℕ → List ℕ → List ℕ → List ℕ → List ℕ → Option Answer → Type 0
Answers shop other first second line file a =
    MatchOption a (shop_words shop ≢ shop_words other) (λ j. (shop_words shop ≡ shop_words other) × Joins shop first second line file j)
