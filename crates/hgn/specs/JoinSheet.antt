-- The join of two orders written as an order sheet: its rows and words, the questions 81 to 83, and the whole answer of the call that writes
-- it, for every four lists of words. Document 01, "How a derivation runs", from "The join of two orders" on, "The three sheets", and the last
-- line of "Questions"; document 02, Req 02. The first order has G goals, the second H.
use Rattle.std.specs.Prelude.{ℕ, ◌+◌, ◌*◌, cond, leb, length, take}
use mathlib.Core.List.{List, [], ◌∷◌, ◌++◌, map, flat_map}
use Rattle.hgn.specs.Lists.{range, drop_until}
use Rattle.hgn.specs.Tag
use Rattle.hgn.specs.Rows.{Row, row, has, row_words, most_rows}
use Rattle.hgn.specs.Questions.{Question, ◌asks◌}
use Rattle.hgn.specs.Lent.{Lent, overwritten, writing}
use Rattle.hgn.specs.Shop.{shop_questions}
use Rattle.hgn.specs.Order.{atom_count, goal_count, row_count, most_goals, size_words, order_rows, order_questions}

-- What a row of the second order becomes behind a first order of `g` goals: a goal's 7 row is followed by the 11 rows 0 to `g` less 1, its
-- own 11 rows are raised by `g`, every other row stays.
unfoldable pub raised_row : ℕ → Row → List Row
raised_row g r =
    cond (has Tag.node r) (r ∷ map (row Tag.after) (range 0 g))
    (cond (has Tag.after r) (row Tag.after (g + r.value) ∷ [])
    (r ∷ []))

-- "the first's start rows, the first's goals with their rows, then the second's goals in listed order": the second's rows from its first 7 on.
unfoldable pub joined_rows : List ℕ → List ℕ → List Row
unfolding flat_map
joined_rows first second = order_rows first ++ flat_map (raised_row (goal_count first)) (drop_until (has Tag.node) (order_rows second))

-- The words of the joined sheet are F, G + H, N for its rows, N tags and N values.
unfoldable pub joined_words : List ℕ → List ℕ → List ℕ
joined_words first second = atom_count first ∷ (goal_count first + goal_count second) ∷ row_words (joined_rows first second)

-- "the shop sheet, the first order and the second […], in turn": the second order is asked 11 to 18, as the first is.
abbrev pub sheet_questions : List ℕ → List ℕ → List ℕ → List Question
sheet_questions shop first second = shop_questions shop ++ order_questions shop first ++ order_questions shop second

-- "81 when the goals sum to more than 64, 82 when more than 4,000 rows come out, 83 when the room is short; asked in that order after" these.
unfoldable pub join_questions : List ℕ → List ℕ → List ℕ → List ℕ → List Question
join_questions shop first second room =
    sheet_questions shop first second
    ++ (81 asks leb (goal_count first + goal_count second) most_goals
    ∷ 82 asks leb (length (joined_rows first second)) most_rows
    ∷ 83 asks leb (size_words + 2 * length (joined_rows first second)) (length room)
    ∷ [])

-- The call writes the joined sheet where every question is answered yes.
unfoldable pub write_join : List ℕ → List ℕ → List ℕ → List ℕ → Lent (List ℕ)
write_join shop first second room = writing (join_questions shop first second room) room (overwritten (joined_words first second) room)

-- The order sheet that stands first in a room, as long as its N says: where the call has written, the joined sheet.
unfoldable pub sheet_in : List ℕ → List ℕ
sheet_in room = take (size_words + 2 * row_count room) room
