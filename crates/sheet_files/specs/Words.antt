-- The words of a file's bytes, and the bytes of words. Document 01, "One core of sixty centimetres".
use Rattle.std.specs.Prelude.{ℕ, ◌+◌, ◌*◌, ◌/◌, ◌%◌, ◌<◌, ◌≡◌, List, [], ◌∷◌, ◌++◌, length, get_or, take, drop}
use Rattle.hgn.specs.Rows.{most_rows}
use Rattle.hgn.specs.Shop as Shop
use Rattle.hgn.specs.Order as Order
use Rattle.hgn.specs.Trace as Trace
use Rattle.sheet_files.specs.declared.file.TheConstants.{SHOP_WORDS, ORDER_WORDS, TRACE_WORDS}

-- A word of two bytes.
abbrev pub word_of : ℕ → ℕ → ℕ
word_of low high = low + 256 * high

-- Words low byte first, an odd last byte dropped.
unfoldable pub words_of : List ℕ → List ℕ
words_of [] = []
words_of (low ∷ []) = []
words_of (low ∷ high ∷ rest) = word_of low high ∷ words_of rest

-- At most two bytes past the largest sheet are read, one with so many words before its rows or steps, and so many of these.
abbrev pub bytes_read : ℕ → ℕ → ℕ
bytes_read sizes most = 2 * (sizes + 2 * most) + 2

abbrev pub shop_bytes : ℕ
shop_bytes = bytes_read Shop.size_words most_rows

abbrev pub order_bytes : ℕ
order_bytes = bytes_read Order.size_words most_rows

abbrev pub trace_bytes : ℕ
trace_bytes = bytes_read Trace.size_words Trace.most_steps

-- The words of the first bytes, so many or all.
unfoldable pub words_read : ℕ → List ℕ → List ℕ
words_read most bytes = words_of (take most bytes)

-- The words of a file of each kind.
abbrev pub shop_words : List ℕ → List ℕ
shop_words = words_read shop_bytes

abbrev pub order_words : List ℕ → List ℕ
order_words = words_read order_bytes

abbrev pub trace_words : List ℕ → List ℕ
trace_words = words_read trace_bytes

-- The code has room for as many words as are read of a file of each kind.
abbrev pub RoomsTakeSheets : Type 0
RoomsTakeSheets = (2 * SHOP_WORDS ≡ shop_bytes) × (2 * ORDER_WORDS ≡ order_bytes) × (2 * TRACE_WORDS ≡ trace_bytes)

-- The bytes of words, low byte first.
unfoldable pub bytes_of : List ℕ → List ℕ
bytes_of [] = []
bytes_of (w ∷ rest) = w % 256 ∷ w / 256 ∷ bytes_of rest

-- Bytes written of 16-bit words are bytes, two for each word, and are read again as the same words.
pub record ReadBack (words : List ℕ) : Type 0 where
  pub twice : length (bytes_of words) ≡ 2 * length words
  pub below : (i : ℕ) → get_or (bytes_of words) i 0 < 256
  pub same : words_of (bytes_of words) ≡ words

abbrev pub BytesAreReadBack : Type 0
BytesAreReadBack = (words : List ℕ) → ((i : ℕ) → get_or words i 0 < 65536) → ReadBack words

-- A room with words or bytes written over its first ones, and how many those are.
pub record Filled (words before room : List ℕ) (count : ℕ) : Type 0 where
  pub counts : count ≡ length words
  pub holds : room ≡ words ++ drop (length words) before
