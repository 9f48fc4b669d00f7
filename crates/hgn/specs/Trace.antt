-- The trace: its size, its steps, and the questions 21 to 23. Document 01, "The three sheets" and "Questions".
use Rattle.std.specs.Prelude.{ℕ, ◌+◌, ◌*◌, eqb, leb, length, take, drop}
use mathlib.Core.List.{List, [], ◌∷◌, ◌++◌, map, zip_with}
use Rattle.hgn.specs.Questions.{Question, ◌asks◌, Verdict, first_no}
use Rattle.hgn.specs.Rows.{word}
use Rattle.hgn.specs.Run.{Step}
use Rattle.hgn.specs.Shop.{shop_questions}
use Rattle.hgn.specs.Order.{order_questions}

-- The size L.
abbrev pub step_count : List ℕ → ℕ
step_count trace = word trace 0

-- The words before the moves.
abbrev pub size_words : ℕ
size_words = 1

-- The most steps of a trace.
abbrev pub most_steps : ℕ
most_steps = 4096

abbrev pub step : ℕ → ℕ → Step
step move place = record { move = move; place = place }

-- L moves, then L places.
unfoldable pub steps_of : List ℕ → List Step
unfolding zip_with
steps_of trace =
    zip_with step (take (step_count trace) (drop size_words trace))
    (take (step_count trace) (drop (size_words + step_count trace) trace))

-- A list of steps as a trace: L, then L moves, then L places.
unfoldable pub trace_words : List Step → List ℕ
trace_words xs = length xs ∷ map (λ x. x.move) xs ++ map (λ x. x.place) xs

-- "Trace: at least 1 word? 21. L in range? 22. Length 1 + 2L? 23."
unfoldable pub trace_questions : List ℕ → List Question
trace_questions trace =
    21 asks leb size_words (length trace)
    ∷ 22 asks leb (step_count trace) most_steps
    ∷ 23 asks eqb (length trace) (size_words + 2 * step_count trace)
    ∷ []

unfoldable pub check_trace : List ℕ → List ℕ → List ℕ → Verdict
check_trace shop sheet trace = first_no (shop_questions shop ++ order_questions shop sheet ++ trace_questions trace)
