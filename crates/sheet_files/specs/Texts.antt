-- Numbers as decimal text, and the line that begins an answer. Document 01, "One core of sixty centimetres"; document 02,
-- Req 01.
use Rattle.std.specs.Prelude.{ℕ, zero, suc, ◌+◌, ◌*◌, ◌/◌, ◌%◌, cond, List, [], ◌∷◌, ◌++◌, ltb}
use Rattle.hgn.specs.State.{no_atom}
use Rattle.hgn.specs.Questions.{Refusal}
use Rattle.hgn.specs.Replay.{Replayed}

-- The most digits of a number that is printed: they hold every 64-bit number.
abbrev pub most_digits : ℕ
most_digits = 20

-- How many decimal digits a number has, counted up to the first argument.
unfoldable pub digit_count : ℕ → ℕ → ℕ
digit_count zero n = 0
digit_count (suc k) n = cond (ltb n 10) 1 (suc (digit_count k (n / 10)))

-- So many of a number's last digits in a base up to ten, in ASCII, the last of all behind the others.
abbrev pub last_digits : ℕ → ℕ → ℕ → List ℕ
last_digits base zero n = []
last_digits base (suc k) n = last_digits base k (n / base) ++ ((48 + n % base) ∷ [])

-- A number of no more digits than these, in ASCII.
unfoldable pub decimal : ℕ → List ℕ
decimal n = last_digits 10 (digit_count most_digits n) n

-- A number and the byte that ends it.
unfoldable pub ended : ℕ → ℕ → List ℕ
ended end n = decimal n ++ (end ∷ [])

-- The bytes that end a number, in ASCII too.
abbrev pub blank : ℕ
blank = 32

abbrev pub newline : ℕ
newline = 10

-- "one line with number, place, plan count and cost", and behind them the unmet atom: "The program prints it last on its first line."
unfoldable pub heading : ℕ → ℕ → ℕ → ℕ → ℕ → List ℕ
heading number place count cost atom =
    ended blank number ++ ended blank place ++ ended blank count ++ ended blank cost ++ ended newline atom

-- The heading of what a replay answers.
abbrev pub heading_of : Replayed → List ℕ
heading_of r =
    heading r.answer.refusal.number r.answer.refusal.place r.answer.count r.answer.cost r.answer.atom

-- The heading of a call that answers a number and a place and nothing else: no plan, no cost, no atom.
abbrev pub answer_line : Refusal → List ℕ
answer_line q = heading q.number q.place 0 0 no_atom

-- The most bytes of a number with the byte that ends it, and of the heading with its five numbers.
abbrev pub number_bytes : ℕ
number_bytes = most_digits + 1

abbrev pub heading_bytes : ℕ
heading_bytes = number_bytes * 5
