-- Assumes nothing.
use native.Mathlib.Omega.{arith}
use Rattle.listing.proofs.Telling.{line_numbers}
use Rattle.listing.proofs.line.line_at.Goals as goal

pub entry_at-goal-requires : goal.entry_at-goal-requires
entry_at-goal-requires c = omega (arith, c.args.goals.now.few, c.requires)

pub goals_above-requires : goal.goals_above-requires
goals_above-requires c = c.requires

pub returns : goal.returns
returns c shop order n reached =
    line_numbers c.args.goals.now c.args.place.0 c.requires c.args.number shop order c.entry_at-goal.ensures
    (c.goals_above.ensures shop order n reached) c.step_of-brought.ensures c.method_of.ensures
