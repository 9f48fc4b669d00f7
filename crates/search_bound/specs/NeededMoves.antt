-- What the needed moves found so far stand for. No reader needs to trust this page: a statement of `search_theory` says what the bound is
-- for.
use Rattle.std.specs.Prelude.{ℕ, suc, ◌+◌, ◌-◌, ◌≤◌, ◌<◌, ◌≡◌, false, true, cond, ltb, length, take, get_or}
use mathlib.Core.List.{List, map, Memᴰ}
use Rattle.hgn.specs.Meaning.{Literal, Formula, Domain}
use Rattle.hgn.specs.Shop.{domain, most_actions, most_methods}
use Rattle.hgn.specs.State.{State, literal_holds}
use Rattle.hgn.specs.Run.{Move, act, use_method, Problem, Rules}
use Rattle.hgn.specs.Replay.{rules_of}
use Rattle.search_theory.specs.Needed.{Needed, Hopeless, OnlyAchiever, InEvery, steps_of_move, steps_of_moves, Different}
use Rattle.search_bound.specs.declared.achievers.Table.{Table}
use Rattle.search_bound.specs.declared.needed_moves.NeededMoves.{NeededMoves}
use Rattle.search_bound.specs.Tables.{OnlyAchievers}

-- The most operators that are gathered, and the most steps that they are said to take. Those beyond are left out: some of the needed moves are
-- needed too, so the number of steps is still one that no accepted trace goes below.
abbrev pub most_needed : ℕ
most_needed = most_actions + most_methods

abbrev pub most_needed_steps : ℕ
most_needed_steps = 60000

-- The operators that are gathered.
abbrev pub needed_operators : NeededMoves → List ℕ
needed_operators ms = take ms.count ms.operators

-- Actions and methods counted together, as the table of starts has them.
unfoldable pub move_of_operator : Domain → ℕ → Move
move_of_operator d o = cond (ltb o (length d.actions)) (act (suc o)) (use_method (o - length d.actions))

abbrev pub moves_needed : Domain → NeededMoves → List Move
moves_needed d ms = map (move_of_operator d) (needed_operators ms)

-- The moves found are needed, different and marked, and their steps are at most those that they take together. Where it is said so, no
-- trace is accepted.
pub record Holds (r : Rules) (P : Problem) (ms : NeededMoves) : Type 0 where
  pub room : length ms.operators ≡ most_needed
  pub marked : length ms.gathered ≡ most_needed
  pub fits : ms.count ≤ most_needed
  pub within : (o : ℕ) → Memᴰ o (needed_operators ms) → o < length r.domain.actions + length r.domain.methods
  pub needed : (o : ℕ) → Memᴰ o (needed_operators ms) → Needed r P (move_of_operator r.domain o)
  pub marks : (o : ℕ) → Memᴰ o (needed_operators ms) → get_or ms.gathered o false ≡ true
  pub different : Different (moves_needed r.domain ms)
  pub steps : ms.steps ≤ steps_of_moves r.domain (moves_needed r.domain ms)
  pub few : ms.steps ≤ most_needed_steps
  pub hopeless : ms.hopeless ≡ true → Hopeless r P

-- The literal holds at some time in every accepted trace: where it does not at first, its only achiever is needed, and with no achiever
-- (`k` is 0) no trace is accepted.
abbrev pub Wanted : Literal → Rules → Problem → Type 0
Wanted l r P = (k : ℕ) → literal_holds P.state l ≡ false → OnlyAchiever r.domain l k → Needed r P (act k)

-- Each of these literals holds at some time in every accepted trace.
abbrev pub WantedAll : List Literal → Rules → Problem → Type 0
WantedAll ls r P = (l : Literal) → Memᴰ l ls → Wanted l r P

-- Each literal that stands in every alternative of the formula holds at some time in every accepted trace.
abbrev pub WantedFormula : Formula → Rules → Problem → Type 0
WantedFormula f r P = (l : Literal) → InEvery l f → Wanted l r P

-- What may be added: the operator of a needed move, with at most the steps that it takes.
abbrev pub WithOperator : ℕ → ℕ → NeededMoves → NeededMoves → Type 0
WithOperator o steps ms ms' = (shop : List ℕ) (P : Problem) → o < length (domain shop).actions + length (domain shop).methods
    → Needed (rules_of shop) P (move_of_operator (domain shop) o) → steps ≤ steps_of_move (domain shop) (move_of_operator (domain shop) o)
    → Holds (rules_of shop) P ms → Holds (rules_of shop) P ms'

-- What may be added by the table of only achievers, if so much is known of a shop sheet's rules and a problem with this state.
abbrev pub WithAchievers : (Rules → Problem → Type 0) → State → Table → ℕ → NeededMoves → NeededMoves → Type 0
WithAchievers known s table actions ms ms' = (shop : List ℕ) (P : Problem) → P.state ≡ s → length (domain shop).actions ≡ actions
    → OnlyAchievers (domain shop) table → known (rules_of shop) P → Holds (rules_of shop) P ms → Holds (rules_of shop) P ms'

-- What may be added because these goals wait, by a table that holds of a shop sheet with so many actions.
abbrev pub WithGoals : Problem → Table → ℕ → NeededMoves → NeededMoves → Type 0
WithGoals P table actions ms ms' = (shop : List ℕ) → length (domain shop).actions ≡ actions
    → OnlyAchievers (domain shop) table → Holds (rules_of shop) P ms → Holds (rules_of shop) P ms'

-- What may be added because a move is needed.
abbrev pub Onward : Rules → Problem → Move → NeededMoves → NeededMoves → Type 0
Onward r P m ms ms' = Needed r P m → Holds r P ms → Holds r P ms'

-- What may be added in every problem with this state because a move is needed.
abbrev pub OnwardFrom : Rules → State → Move → NeededMoves → NeededMoves → Type 0
OnwardFrom r s m ms ms' = (P : Problem) → P.state ≡ s → Onward r P m ms ms'
