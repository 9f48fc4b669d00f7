-- The code's literals and answers read as the definitions', and what the contracts of `relevance` are written with. Document 02, Req 04.
use Rattle.std.specs.Prelude.{◌≡◌, Bool, true, cond, List, [], ◌∷◌, Option, None, Some}
use Rattle.hgn.specs.Rows.{Row, values_tagged}
use Rattle.hgn.specs.Tag.{wanted_true, wanted_false}
use Rattle.hgn.specs.Meaning as Meaning
use Rattle.hgn.specs.Meaning.{literals}
use Rattle.hgn.specs.State.{State, empty_state, assign}
use Rattle.hgn.specs.Relevance as Defined
use Rattle.hgn.specs.Relevance.{blocked, helping, neither}
use Rattle.sheet_index.specs.declared.rows.Rows.{Rows}
use Rattle.sheet_index.specs.Index.{rows_in}
use Rattle.state.specs.declared.literals.Literal.{Literal}
use Rattle.state.specs.declared.literals.LiteralTags.{LiteralTags}
use Rattle.state.specs.Literals.{literal_of}
use Rattle.state.specs.declared.relevance.Relevance.{Relevance}
use Rattle.state.specs.declared.relevance.Relevance.TheVariants.{Blocked, Helping, Neither}

-- The code's answer as the definition's: the same case, with the same effect.
abbrev pub relevance_of : Relevance → Defined.Relevance
relevance_of (Blocked e) = blocked (literal_of e)
relevance_of (Helping e) = helping (literal_of e)
relevance_of Neither = neither

-- The answer for effects with others behind them, from the answer for each: the first that is blocked; else the first that helps; else neither.
unfoldable pub followed : Defined.Relevance → Defined.Relevance → Defined.Relevance
followed (blocked e) r = blocked e
followed (helping e) (blocked f) = blocked f
followed (helping e) (helping f) = helping e
followed (helping e) neither = helping e
followed neither r = r

-- The answer for one effect, from whether its atom is wanted true (`positive`) and whether it is wanted false (`negative`).
abbrev pub effect_met_by : Meaning.Literal → Bool → Bool → Defined.Relevance
effect_met_by e positive negative =
    cond (cond e.sign negative positive) (blocked e) (cond (cond e.sign positive negative) (helping e) neither)

-- The literals of the 9 and 10 rows, wherever they stand among these.
abbrev pub wanted_in : List Row → List Meaning.Literal
wanted_in rs = literals wanted_true wanted_false rs

-- The literals of rows with these two tags.
abbrev pub effects_in : LiteralTags → List Row → List Meaning.Literal
effects_in signs rs = literals signs.positive signs.negative rs

-- The first effect of these rows, with the rows behind its own; none where no row has one.
abbrev pub NextEffect : LiteralTags → List Row → Option (Literal × Rows) → Type 0
NextEffect signs rs None = effects_in signs rs ≡ []
NextEffect signs rs (Some next) = effects_in signs rs ≡ literal_of next.0 ∷ effects_in signs (rows_in next.1)

-- The two sets are the atoms, of the 256, that the rows want true and those that they want false; a larger number leaves no mark.
pub record Marked (rs : List Row) (positive negative : State) : Type 0 where
  pub wanted_true_marked : positive ≡ assign true (values_tagged wanted_true rs) empty_state
  pub wanted_false_marked : negative ≡ assign true (values_tagged wanted_false rs) empty_state
