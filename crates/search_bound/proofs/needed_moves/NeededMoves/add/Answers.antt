-- An operator that is not gathered is different from those before it. Assumes nothing.
use native.Mathlib.Omega.{arith}
use mathlib.Core.Path.{◌≡◌}
use mathlib.Core.Bool.{false}
use lib.ListN.{get_or}
use borrow.Author.Rules.{rules}
use Rattle.hgn.proofs.Logic.Tests.{false_not_true}
use Rattle.search_bound.proofs.NeededMoves.{added}
use Rattle.search_bound.proofs.needed_moves.NeededMoves.add.Goals as goal

pub returns-then-not-self-operator : goal.returns-then-not-self-operator
returns-then-not-self-operator c shop P b n l h =
    let new : get_or c.args.self.now.gathered c.args.operator false ≡ false = search rules in
    added _ _ _ h.room (omega arith) (omega arith) (false_not_true _ new) (omega arith) shop P b n l h
