-- The code's literals read as the definitions'.
use Rattle.std.specs.Prelude.{List, [], ◌∷◌, Option, None, Some}
use Rattle.hgn.specs.Meaning as Meaning
use Rattle.state.specs.declared.literals.Literal.{Literal}

abbrev pub literal_of : Literal → Meaning.Literal
literal_of l = record { sign = l.sign; atom = l.atom.0 }

-- The literals of a row: one or none.
abbrev pub literals_of : Option Literal → List Meaning.Literal
literals_of None = []
literals_of (Some l) = literal_of l ∷ []
