-- What effects do to wanted literals, told with the effect that decides. `State.relevant` is true exactly where helping is told
-- (`RelevantIsHelping` of `Demands`). Document 02, Req 04.
use Rattle.std.specs.Prelude.{Bool, true, false, List}
use Rattle.std.proofs.Math.Option.{none, some}
use Rattle.hgn.specs.Lists.{find}
use Rattle.hgn.specs.Meaning.{Literal}
use Rattle.hgn.specs.State.{opposite, contains}

-- "The test tells one of three". Blocked and helping hold the effect that decides.
pub data Relevance : Type 0 where
  blocked : Literal → Relevance
  helping : Literal → Relevance
  neither : Relevance

-- "blocked, with the first effect whose opposite stands there; else helping, with the first that stands there itself; else neither". The
-- effects are in listed order: an action's 5 and 6 rows, or for a method the 9 and 10 rows of its goal, which is the one alternative of its last
-- node. 'There' is among the wanted literals: all those of all alternatives of the waiting goal together.
unfoldable pub relevance : List Literal → List Literal → Relevance
relevance effects wanted = elim (find (λ e. contains wanted (opposite e)) effects) [
  | some e ↦ blocked e
  | none ↦ elim (find (contains wanted) effects) [
    | some e ↦ helping e
    | none ↦ neither
  ]
]

-- "Relevant is helping alone".
abbrev pub is_helping : Relevance → Bool
is_helping (blocked e) = false
is_helping (helping e) = true
is_helping neither = false
