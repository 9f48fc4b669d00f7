-- What effects do to the literals that a formula wants, and what they make of a state, one after the other. Document 01, "How a derivation
-- runs".
use Rattle.std.specs.Prelude.{cond, List, [], ◌∷◌, set}
use Rattle.hgn.specs.Lists.{any}
use Rattle.hgn.specs.Meaning.{Literal}
use Rattle.hgn.specs.State.{State, opposite, contains}
use Rattle.state.specs.declared.literals.Met.{Met}
use Rattle.state.specs.declared.literals.Met.TheVariants.{Opposite, Same, Neither}

-- The effects contain the opposite of one of these literals; or else one of them; or neither.
unfoldable pub met_of : List Literal → List Literal → Met
met_of effects ls = cond (any (λ l. contains effects (opposite l)) ls) Opposite (cond (any (contains effects) ls) Same Neither)

-- Each literal's atom is put in or taken out in turn.
unfoldable pub set_each : List Literal → State → State
set_each [] s = s
set_each (l ∷ ls) s = set_each ls (set s l.atom l.sign)
