-- What a test tells by the definitions. Assumes nothing.
use Prim.Native.Nat.{ℕ}
use mathlib.Core.Path.{◌≡◌, sym, ap}
use mathlib.Core.Bool.{Bool}
use mathlib.Core.List.{List}
use Rattle.std.proofs.Common.{Result, is_ok}
use Rattle.hgn.specs.Meaning.{Literal, Formula}
use Rattle.hgn.specs.State.{State, all_hold, formula_holds, unmet, unmet_goal}
use Rattle.sheet_rows.specs.declared.position.Atom.{Atom}
use Rattle.state.specs.Tests.{unmet_in, Tested, GoalTested}

-- What a test tells: does it hold, and which atom is not as wanted.
abbrev pub told_by : Result Unit Atom → Bool × ℕ
told_by test = (is_ok test, unmet_in test)

-- The same of a formula by the definitions; of literals it is `told_in`.
abbrev pub goal_told : State → Formula → Bool × ℕ
goal_told s g = (formula_holds s g, unmet_goal s g)

module _ {s : State} {test : Result Unit Atom} where
  pub tested : (ls : List Literal) → (all_hold s ls, unmet s ls) ≡ told_by test → Tested s ls test
  tested ls e = record { holds = sym (ap (λ (k : Bool × ℕ). k.0) e); atom = sym (ap (λ (k : Bool × ℕ). k.1) e) }

  pub goal_tested : (g : Formula) → goal_told s g ≡ told_by test → GoalTested s g test
  goal_tested g e = record { holds = sym (ap (λ (k : Bool × ℕ). k.0) e); atom = sym (ap (λ (k : Bool × ℕ). k.1) e) }
