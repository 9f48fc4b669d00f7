-- What was added so far is needed. Assumes nothing.
use Rattle.step.specs.Taking.{problem_with}
use Rattle.search_bound.specs.NeededMoves.{WithGoals}
use Rattle.search_bound.proofs.least.add_goals.Given as goal

abbrev pub invariant-loop-i : goal.invariant-loop-i
invariant-loop-i l = WithGoals (problem_with l.shop l.order l.atoms l.goals) l.table l.actions l.initial.moves l.moves
