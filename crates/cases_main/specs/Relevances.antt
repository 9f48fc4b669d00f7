-- What a case of relevance gives, and what is told of it. Document 02, Req 04.
use Rattle.std.specs.Prelude.{ℕ, ◌%◌, ◌≡◌, Bool, cond, length, Option, None, Some}
use mathlib.Core.List.{List, [], ◌∷◌, flatten}
use Rattle.hgn.specs.Lists.{any, elem}
use Rattle.hgn.specs.Rows.{Row, row}
use Rattle.hgn.specs.Tag.{makes_true, makes_false, wanted_true, wanted_false}
use Rattle.hgn.specs.Meaning.{node_of}
use Rattle.hgn.specs.Relevance.{relevance}
use Rattle.state.specs.declared.literals.LiteralTags.{LiteralTags}
use Rattle.state.specs.Relevances.{relevance_of, effects_in}
use Rattle.cases_main.specs.declared.relevances.Told.{Told}

-- The most words of a side: those of the room that it is read into.
abbrev pub most_words : ℕ
most_words = 131075

-- The rows of words that are a tag and a value by turns; a last tag without a value is dropped.
unfoldable pub pairs : List ℕ → List Row
pairs [] = []
pairs (t ∷ []) = []
pairs (t ∷ v ∷ rest) = row t v ∷ pairs rest

-- The row is wanted, as a goal's are: it has the tag 9 or 10.
abbrev pub is_wanted : Row → Bool
is_wanted r = elem r.tag (wanted_true ∷ wanted_false ∷ [])

abbrev pub goal_tags : LiteralTags
goal_tags = record { positive = wanted_true; negative = wanted_false }

abbrev pub action_tags : LiteralTags
action_tags = record { positive = makes_true; negative = makes_false }

-- The tags of the effects among rows: 9 and 10 where one of the rows has one of these, a method's goal; else 5 and 6, an action's.
unfoldable pub tags_of : List Row → LiteralTags
tags_of rows = cond (any is_wanted rows) goal_tags action_tags

-- The tag of a row with this sign.
abbrev pub tag_of : LiteralTags → Bool → ℕ
tag_of signs sign = cond sign signs.positive signs.negative

-- What is told of the effects of some rows and of what the node of others wants.
pub record ToldOf (effects wanted : List Row) (told : Told) : Type 0 where
  pub tags : told.signs ≡ tags_of effects
  pub tells : relevance_of told.relevance ≡ relevance (effects_in (tags_of effects) effects) (flatten (node_of wanted).formula)

-- What is told where every tag of two lists of words has its value; else nothing.
abbrev pub AnsweredBy : List ℕ → List ℕ → Option Told → Type 0
AnsweredBy effects wanted (Some told) = (length effects % 2 ≡ 0) × (length wanted % 2 ≡ 0) × ToldOf (pairs effects) (pairs wanted) told
AnsweredBy effects wanted None = length effects % 2 ≡ 0 → length wanted % 2 ≡ 0 → ⊥
