-- What the listing program prints. Document 02, Req 03.
use Rattle.std.specs.Prelude.{ℕ, ◌+◌, ◌*◌, ◌-◌, ◌≡◌, cond, ◌≢◌, List, [], ◌∷◌, ◌++◌, eqb, replicate}
use Rattle.hgn.specs.Network.{most_waiting, step_number, method_number}
use Rattle.hgn.specs.Order as Order
use Rattle.hgn.specs.Trace.{most_steps}
use Rattle.hgn.specs.Replay.{Answer, Replayed, replay}
use Rattle.hgn.specs.Listing.{Line, lines_in}
use Rattle.sheet_files.specs.Words.{shop_words, order_words, trace_words}
use Rattle.sheet_files.specs.Texts.{ended, blank, newline, heading_of, number_bytes}

-- A line of four numbers: "two blanks for each goal above it up to the order's goal, then the step that released it, the step that brought it
-- in and the method's number from 0, one blank apart".
unfoldable pub line_text : ℕ → ℕ → ℕ → ℕ → List ℕ
line_text above released brought method =
    replicate (2 * above) blank ++ ended blank released ++ ended blank brought ++ ended newline method

-- "one line a goal, in the order of release".
unfoldable pub lines_text : List Line → List ℕ
lines_text [] = []
lines_text (l ∷ ls) = line_text l.above l.released (step_number l.source) (method_number l.source) ++ lines_text ls

-- The replay of three sheets, with a word of plan room lent for each of the most steps, 4,096.
abbrev pub answer_to : List ℕ → List ℕ → List ℕ → Replayed
answer_to shop sheet trace = replay shop sheet trace (replicate most_steps 0)

-- Its number: 0 where it accepts.
abbrev pub number_to : List ℕ → List ℕ → List ℕ → ℕ
number_to shop sheet trace = (answer_to shop sheet trace).answer.refusal.number

-- The text for three sheets: of an accepted trace the lines and nothing else. "Of a refused trace only the replay program's line is printed."
unfoldable pub listing : List ℕ → List ℕ → List ℕ → List ℕ
listing shop sheet trace =
    cond (eqb (number_to shop sheet trace) 0) (lines_text (lines_in shop sheet trace)) (heading_of (answer_to shop sheet trace))

-- The text for the bytes of three files.
unfoldable pub listed : List ℕ → List ℕ → List ℕ → List ℕ
listed shop order trace = listing (shop_words shop) (order_words order) (trace_words trace)

-- The line of a refusal, as the replay program prints it: number and place, 0 and 0, and last the unmet atom.
abbrev pub refusal_line : Answer → List ℕ
refusal_line a =
    ended blank a.refusal.number ++ ended blank a.refusal.place ++ ended blank 0 ++ ended blank 0 ++ ended newline a.atom

-- The listing follows the replay of the same bytes: a tree exactly where that accepts, and where it refuses the line with which its answer begins. An
-- accepted order without goals gives no byte.
pub record Lists (shop order trace : List ℕ) : Type 0 where
  pub tree : number_to (shop_words shop) (order_words order) (trace_words trace) ≡ 0
      → listed shop order trace ≡ lines_text (lines_in (shop_words shop) (order_words order) (trace_words trace))
  pub refusal : number_to (shop_words shop) (order_words order) (trace_words trace) ≢ 0
      → listed shop order trace ≡ refusal_line (answer_to (shop_words shop) (order_words order) (trace_words trace)).answer
  pub nothing : number_to (shop_words shop) (order_words order) (trace_words trace) ≡ 0
      → (Order.order (order_words order)).goals ≡ [] → listed shop order trace ≡ []

abbrev pub ListsReplay : Type 0
ListsReplay = (shop order trace : List ℕ) → Lists shop order trace

-- "The long core's first line is two blanks and `2 0 0`, its last `9 65535 65535`": their bytes, as numbers.
pub record TextsAre02s : Type 0 where
  pub first : line_text 1 2 0 0 ≡ 32 ∷ 32 ∷ 50 ∷ 32 ∷ 48 ∷ 32 ∷ 48 ∷ 10 ∷ []
  pub last : line_text 0 9 65535 65535 ≡ 57 ∷ 32 ∷ 54 ∷ 53 ∷ 53 ∷ 51 ∷ 53 ∷ 32 ∷ 54 ∷ 53 ∷ 53 ∷ 51 ∷ 53 ∷ 10 ∷ []
  pub deep : line_text 3 4095 10 254 ≡ 32 ∷ 32 ∷ 32 ∷ 32 ∷ 32 ∷ 32 ∷ 52 ∷ 48 ∷ 57 ∷ 53 ∷ 32 ∷ 49 ∷ 48 ∷ 32 ∷ 50 ∷ 53 ∷ 52 ∷ 10 ∷ []

-- Every waiting goal but one may stand above that one.
abbrev pub most_above : ℕ
most_above = most_waiting - 1

-- Bytes enough for a line.
abbrev pub line_bytes : ℕ
line_bytes = 2 * most_above + 3 * number_bytes
