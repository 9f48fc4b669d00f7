-- The questions that are asked of every row of a sheet, and where the sheet stands after its rows. Document 01, "Questions".
use Rattle.std.specs.Prelude.{ℕ, suc, ◌+◌, List, [], ◌∷◌}
use Rattle.hgn.specs.Lists.{elem}
use Rattle.hgn.specs.Tag.{Context, Position, advance, in_range, rises}
use Rattle.hgn.specs.Rows.{Row}
use Rattle.hgn.specs.Questions.{Question, ◌asks◌, ◌askedAt◌}

-- "row by row: tag allowed here? 4. Value in range? 5. Value above the one before it in its group? 6 (4 to 6 at the row, from 0)".
-- `q` is the first of the three numbers, 4 in a shop sheet and 14 in an order sheet; `i` is the row.
unfoldable pub row_questions : (Context → List ℕ) → ℕ → ℕ → ℕ → Position → List Row → List Question
row_questions follow q F i p [] = []
row_questions follow q F i p (r ∷ rs) =
    q asks elem r.tag (follow p.context) askedAt i
    ∷ (q + 1) asks in_range F p r.tag r.value askedAt i
    ∷ (q + 2) asks rises p r.tag r.value askedAt i
    ∷ row_questions follow q F (suc i) (advance p r.tag r.value) rs

-- Where the sheet stands after these rows.
unfoldable pub position_after : Position → List Row → Position
position_after p [] = p
position_after p (r ∷ rs) = position_after (advance p r.tag r.value) rs
