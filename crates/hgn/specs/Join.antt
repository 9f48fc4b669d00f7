-- The join of two orders, acceptance with a limit and from a state, and a cut.
-- Document 01, "How a derivation runs", from "The join of two orders" on.
use Rattle.std.specs.Prelude.{ℕ, ◌+◌, ◌-◌, ◌≤◌, ◌≡◌, List, ◌++◌, map, length, take, drop}
use Rattle.hgn.specs.Lists.{range}
use Rattle.hgn.specs.Meaning.{Order, Node}
use Rattle.hgn.specs.State.{State}
use Rattle.hgn.specs.Run.{Step, Problem, problem_from, problem_of, Rules, limited, Deed, plan_of, run, accepted}

-- The 11 rows of a goal of the second order: 0 to `g` less 1 of the first, then its own raised by `g`.
unfoldable pub raised : ℕ → Node → Node
raised g n = record { after = range 0 g ++ map (λ k. g + k) n.after; formula = n.formula }

-- The first's start rows, the first's goals with their rows, then the second's goals in listed order.
-- The second's start rows are dropped.
unfoldable pub join : Order → Order → Order
join a b = record { start = a.start; goals = a.goals ++ map (raised (length a.goals)) b.goals }

-- The steps are accepted from a problem, with at most the rules' limit waiting at the start and after every step, and leave this plan
-- and this last state.
pub record Accepted (r : Rules) (P : Problem) (xs : List Step) (plan : List ℕ) (last : State) : Type 0 where
  pub within : length P.waiting ≤ r.limit
  pub deeds : List Deed
  pub runs : run r 0 P xs ≡ accepted deeds last
  pub plan_is : plan ≡ plan_of deeds

-- A cut: the first `c` steps, the front, are accepted on the first order with the second's goals counted among the 64, the rules' limit,
-- throughout; the others, the back, on the second order from the state that the front leaves.
pub record Cut (r : Rules) (a b : Order) (xs : List Step) (c : ℕ) : Type 0 where
  pub inside : c ≤ length xs
  pub front_plan : List ℕ
  pub between : State
  pub front : Accepted (limited (r.limit - length b.goals) r) (problem_of a) (take c xs) front_plan between
  pub back_plan : List ℕ
  pub last : State
  pub back : Accepted r (problem_from between b) (drop c xs) back_plan last
