-- States, what holds in them, what an action makes of them, and relevance: each as a test, which a step asks, and as a proposition, in which
-- Definition 1 is written; and the first atom that is not as wanted, of which `Demands` has the proposition. Document 01, "How a derivation
-- runs"; document 02, Req 01; source document 000, "Domain-Independent Planning" and "Goal Networks and HGN Methods".
use Rattle.std.specs.Prelude.{ℕ, ◌≡◌, Bool, true, false, not, cond, ◌&&◌, eqb, get_or, set, replicate}
use Rattle.std.specs.Bool.{beq}
use mathlib.Core.List.{List, [], ◌∷◌, head_d, flatten, Memᴰ}
use Rattle.hgn.specs.Lists.{any, all}
use Rattle.hgn.specs.Meaning.{Literal, Formula}

-- A state is a set of atoms: for each atom, whether it is in.
abbrev pub State : Type 0
State = List Bool

-- The most atoms a shop sheet can have.
abbrev pub most_atoms : ℕ
most_atoms = 256

-- What stands for an atom where none is named: the first number that is no atom of any shop sheet.
abbrev pub no_atom : ℕ
no_atom = most_atoms

unfoldable pub empty_state : State
empty_state = replicate most_atoms false

-- These atoms put in (true) or taken out (false).
unfoldable pub assign : Bool → List ℕ → State → State
assign b [] s = s
assign b (a ∷ rest) s = assign b rest (set s a b)

-- s ⊨ l: the literal holds.
unfoldable pub literal_holds : State → Literal → Bool
literal_holds s l = beq (get_or s l.atom false) l.sign

abbrev pub Entails : State → Literal → Type 0
Entails s l = get_or s l.atom false ≡ l.sign

-- s ⊨ c, for a conjunct of literals: every literal holds.
unfoldable pub all_hold : State → List Literal → Bool
all_hold s ls = all (literal_holds s) ls

abbrev pub EntailsAll : State → List Literal → Type 0
EntailsAll s ls = (l : Literal) → Memᴰ l ls → Entails s l

-- s ⊨ g, for a formula in disjunctive normal form. "A goal holds if one of its alternatives does."
unfoldable pub formula_holds : State → Formula → Bool
formula_holds s f = any (all_hold s) f

abbrev pub Satisfies : State → Formula → Type 0
Satisfies s g = (c : List Literal) × Memᴰ c g × EntailsAll s c

-- Document 02, Req 01: "the first atom that isn't as wanted", of literals in listed order; none where all hold.
unfoldable pub unmet : State → List Literal → ℕ
unmet s [] = no_atom
unmet s (l ∷ ls) = cond (literal_holds s l) (unmet s ls) l.atom

-- "For a goal with alternatives it is the first unmet row of the first alternative." None where one of the alternatives holds, and none
-- for a formula without alternatives, which no checked sheet has.
unfoldable pub unmet_goal : State → Formula → ℕ
unfolding head_d
unmet_goal s f = cond (formula_holds s f) no_atom (unmet s (head_d f []))

-- The atoms of the literals with this sign.
unfoldable pub atoms_of : Bool → List Literal → List ℕ
atoms_of b [] = []
atoms_of b (l ∷ ls) = cond (beq l.sign b) (l.atom ∷ atoms_of b ls) (atoms_of b ls)

-- γ(s, a) of 000: (state less made false) with made true.
unfoldable pub γ : State → List Literal → State
γ s effects = assign true (atoms_of true effects) (assign false (atoms_of false effects) s)

abbrev pub opposite : Literal → Literal
opposite l = record { sign = not l.sign; atom = l.atom }

unfoldable pub contains : List Literal → Literal → Bool
contains ls l = any (λ k. beq k.sign l.sign && eqb k.atom l.atom) ls

-- Relevant: the effects, or a method's goal, contain at least one literal of the formula and the opposite of none,
-- over all literals of all alternatives together.
unfoldable pub relevant : List Literal → Formula → Bool
unfolding flatten
relevant effects f =
    any (contains effects) (flatten f) && not (any (λ l. contains effects (opposite l)) (flatten f))

-- A literal in g, in whichever conjunct.
abbrev pub LiteralOf : Formula → Literal → Type 0
LiteralOf g l = (c : List Literal) × Memᴰ c g × Memᴰ l c

-- "relevant to a goal formula g if eff(a) (or post(m), respectively) entails at least one literal in g and does not entail the
-- negation of any literal in g". 000 does not say what post(m) is; source document 003 does: the last subgoal, which here is goal(m). A list
-- of literals in which no atom has both signs entails a literal exactly when the literal stands in it (`RelevanceIs000s` of `Readings`);
-- checked sheets have no other lists.
pub record Relevant (effects : List Literal) (g : Formula) : Type 0 where
  pub literal : Literal
  pub wanted : LiteralOf g literal
  pub contained : Memᴰ literal effects
  pub no_opposite : (l : Literal) → LiteralOf g l → ¬ Memᴰ (opposite l) effects
