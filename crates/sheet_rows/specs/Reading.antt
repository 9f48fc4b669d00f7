-- The code's sheet, context, position and reading of a row, as the definitions have them. Document 01, "The three sheets".
use Rattle.std.specs.Prelude.{ℕ, suc, ◌+◌, Bool, false, cond, List, [], ◌∷◌, Result, Ok, Err, eqb, leb, ltb}
use Rattle.hgn.specs.Lists.{elem}
use Rattle.hgn.specs.Tag as Tag
use Rattle.sheet_rows.specs.declared.position.Sheet.{Sheet}
use Rattle.sheet_rows.specs.declared.position.Sheet.TheVariants.{Shop, Order}
use Rattle.sheet_rows.specs.declared.position.Context.{Context}
use Rattle.sheet_rows.specs.declared.position.Context.TheVariants.{AtStart, InAction, InEffects, InMethod, InNode, InAlternative}
use Rattle.sheet_rows.specs.declared.position.Position.{Position}
use Rattle.sheet_rows.specs.declared.refusal.Question.{Question}
use Rattle.sheet_rows.specs.Refusals.{number_of}

abbrev pub follow_of : Sheet → Tag.Context → List ℕ
follow_of Shop = Tag.shop_follow
follow_of Order = Tag.order_follow

-- The number of the first question asked of a row.
abbrev pub first_question_of : Sheet → ℕ
first_question_of Shop = 4
first_question_of Order = 14

abbrev pub context_of : Context → Tag.Context
context_of AtStart = Tag.at_start
context_of InAction = Tag.in_action
context_of InEffects = Tag.in_effects
context_of InMethod = Tag.in_method
context_of InNode = Tag.in_node
context_of InAlternative = Tag.in_alternative

abbrev pub position_of : Position → Tag.Position
position_of p = record { context = context_of p.context; least = p.least; nodes = p.nodes }

-- What a row reads as: the next position, or the number of the question that it fails.
pub data RowReading : Type 0 where
  next : Tag.Position → RowReading
  refused : ℕ → RowReading

abbrev pub reading_of : Result Position Question → RowReading
reading_of (Ok p) = next (position_of p)
reading_of (Err question) = refused (number_of question)

-- The three questions of a row at a position, `q` the first's number.
unfoldable pub row_reading : (Tag.Context → List ℕ) → ℕ → ℕ → Tag.Position → ℕ → ℕ → RowReading
row_reading follow q F p t v =
    cond (elem t (follow p.context))
    (cond (Tag.in_range F p t v)
    (cond (Tag.rises p t v) (next (Tag.advance p t v)) (refused (q + 2)))
    (refused (q + 1)))
    (refused q)

-- A row that goes on in the group of a node's 11 rows or of an alternative's 9 and 10 rows, and the position after it.
unfoldable pub row_goes_on : ℕ → Tag.Position → ℕ → ℕ → Bool
row_goes_on F p t v = cond (leb p.least v) (elim p.context [
  | Tag.at_start ↦ false
  | Tag.in_action ↦ false
  | Tag.in_effects ↦ false
  | Tag.in_method ↦ false
  | Tag.in_node ↦ cond (eqb t Tag.after) (ltb (suc v) p.nodes) false
  | Tag.in_alternative ↦ cond (elem t (Tag.wanted_true ∷ Tag.wanted_false ∷ [])) (ltb v F) false
]) false

abbrev pub above : Tag.Position → ℕ → Tag.Position
above p v = record { context = p.context; least = suc v; nodes = p.nodes }
