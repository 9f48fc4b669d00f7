-- The words that a line of the input may begin with, as bytes of ASCII.
use Rattle.std.specs.Prelude.{ℕ, ◌≡◌, List, [], ◌∷◌, Option, None, Some}
use Rattle.cases_main.specs.declared.call.Call.{Call}
use Rattle.cases_main.specs.declared.call.Call.TheVariants.{Shop, Order, Trace, Replay, Search, Join, Display, Listing, Goals}

-- `with` and a blank.
abbrev pub with_word : List ℕ
with_word = 119 ∷ 105 ∷ 116 ∷ 104 ∷ 32 ∷ []

-- `relevance`.
abbrev pub relevance_word : List ℕ
relevance_word = 114 ∷ 101 ∷ 108 ∷ 101 ∷ 118 ∷ 97 ∷ 110 ∷ 99 ∷ 101 ∷ []

-- `shop`, `order`, `trace`, `replay`, `search`, `join`, `display`, `listing`, `goals`.
abbrev pub name_of : Call → List ℕ
name_of Shop = 115 ∷ 104 ∷ 111 ∷ 112 ∷ []
name_of Order = 111 ∷ 114 ∷ 100 ∷ 101 ∷ 114 ∷ []
name_of Trace = 116 ∷ 114 ∷ 97 ∷ 99 ∷ 101 ∷ []
name_of Replay = 114 ∷ 101 ∷ 112 ∷ 108 ∷ 97 ∷ 121 ∷ []
name_of Search = 115 ∷ 101 ∷ 97 ∷ 114 ∷ 99 ∷ 104 ∷ []
name_of Join = 106 ∷ 111 ∷ 105 ∷ 110 ∷ []
name_of Display = 100 ∷ 105 ∷ 115 ∷ 112 ∷ 108 ∷ 97 ∷ 121 ∷ []
name_of Listing = 108 ∷ 105 ∷ 115 ∷ 116 ∷ 105 ∷ 110 ∷ 103 ∷ []
name_of Goals = 103 ∷ 111 ∷ 97 ∷ 108 ∷ 115 ∷ []

-- The call of this name, or nothing where no call has it.
abbrev pub NamedBy : List ℕ → Option Call → Type 0
NamedBy name (Some call) = name ≡ name_of call
NamedBy name None = (call : Call) → name ≡ name_of call → ⊥
