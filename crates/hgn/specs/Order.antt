-- The order sheet: its sizes, its meaning, and the questions 11 to 18. Document 01, "The three sheets" and "Questions".
use Rattle.std.specs.Prelude.{ℕ, ◌+◌, ◌*◌, Bool, ◌&&◌, List, [], ◌∷◌, ◌++◌, eqb, leb, length}
use Rattle.hgn.specs.Questions.{Question, ◌asks◌, Verdict, first_no}
use Rattle.hgn.specs.Rows.{Row, word, rows_of, most_rows}
use Rattle.hgn.specs.RowQuestions.{row_questions, position_after}
use Rattle.hgn.specs.Tag.{order_follow, opening, may_end}
use Rattle.hgn.specs.Meaning.{Order, order_of}
use Rattle.hgn.specs.Shop

-- The sizes F, G and N.
abbrev pub atom_count : List ℕ → ℕ
atom_count sheet = word sheet 0

abbrev pub goal_count : List ℕ → ℕ
goal_count sheet = word sheet 1

abbrev pub row_count : List ℕ → ℕ
row_count sheet = word sheet 2

-- The most goals of an order, all of which wait when a run starts.
abbrev pub most_goals : ℕ
most_goals = 64

-- The words before the rows.
abbrev pub size_words : ℕ
size_words = 3

unfoldable pub order_rows : List ℕ → List Row
order_rows sheet = rows_of size_words (row_count sheet) sheet

-- What an order sheet that passes means.
unfoldable pub order : List ℕ → Order
order sheet = order_of (order_rows sheet)

unfoldable pub sizes_in_range : List ℕ → List ℕ → Bool
sizes_in_range shop sheet =
    eqb (atom_count sheet) (Shop.atom_count shop) && leb (goal_count sheet) most_goals && leb (row_count sheet) most_rows

-- "May it end here? 17. G nodes? 18."
unfoldable pub order_end_questions : List ℕ → List Question
order_end_questions sheet =
    17 asks may_end (position_after opening (order_rows sheet)).context
    ∷ 18 asks eqb (length (order sheet).goals) (goal_count sheet)
    ∷ []

-- "Order: the same with at least 3 words? 11. F the shop's, G and N in range? 12. Length 3 + 2N? 13. Rows 14, 15, 16 (at the row)." Then 17
-- and 18.
unfoldable pub order_questions : List ℕ → List ℕ → List Question
order_questions shop sheet =
    11 asks leb size_words (length sheet)
    ∷ 12 asks sizes_in_range shop sheet
    ∷ 13 asks eqb (length sheet) (size_words + 2 * row_count sheet)
    ∷ row_questions order_follow 14 (atom_count sheet) 0 opening (order_rows sheet) ++ order_end_questions sheet

-- "Every call asks about all its sheets, in this order, and stops at the first no."
unfoldable pub check_order : List ℕ → List ℕ → Verdict
check_order shop sheet = first_no (Shop.shop_questions shop ++ order_questions shop sheet)
