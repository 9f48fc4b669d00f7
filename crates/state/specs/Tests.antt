-- What a test of literals and of a formula tells: does it hold, and which atom is the first that is not as wanted. Document 01, "How a
-- derivation runs"; document 02, Req 01.
use Rattle.std.specs.Prelude.{ℕ, ◌≡◌, List, Result, Ok, Err, is_ok}
use Rattle.hgn.specs.Meaning.{Literal, Formula}
use Rattle.hgn.specs.State.{State, no_atom, all_hold, formula_holds, unmet, unmet_goal}
use Rattle.sheet_rows.specs.declared.position.Atom.{Atom}

-- The atom by document 02's number, which stands for none where what was tested holds. A formula without alternatives fails with that number
-- too.
abbrev pub unmet_in : Result Unit Atom → ℕ
unmet_in (Ok u) = no_atom
unmet_in (Err atom) = atom.0

-- The test told of these literals what the definitions say: whether all hold, and the first atom that is not as wanted.
pub record Tested (s : State) (ls : List Literal) (t : Result Unit Atom) : Type 0 where
  pub holds : is_ok t ≡ all_hold s ls
  pub atom : unmet_in t ≡ unmet s ls

-- The same of a formula.
pub record GoalTested (s : State) (f : Formula) (t : Result Unit Atom) : Type 0 where
  pub holds : is_ok t ≡ formula_holds s f
  pub atom : unmet_in t ≡ unmet_goal s f
