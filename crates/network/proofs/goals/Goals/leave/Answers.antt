-- The counts behind the goal are made less, and the goals behind it move down (`goal_left`). Assumes nothing.
use native.Mathlib.Omega.{arith}
use Rattle.network.proofs.WaitingGoals.{goal_left}
use Rattle.network.proofs.Moved.{leaving_counted, left_before, left_behind}
use Rattle.network.proofs.goals.Goals.leave.Goals as goal

pub lower_counts-requires : goal.lower_counts-requires
lower_counts-requires c = leaving_counted _ _ c.args.self.now c.args.place.0 c.requires.within.0 c.requires.within.1

pub returns : goal.returns
returns c =
    let w = c.requires.within in
    let l = c.lower_counts.ensures in
    let m = c.copy_within.ensures.by_index in
    goal_left _ _ c.args.self.now c.args.place.0 w.0 w.1 _ (omega (arith, w.0))
    (left_before _ _ c.args.self.now c.args.place.0 w.0 c.lower_counts.new.goals c.copy_within.new.self l m.1)
    (left_behind _ _ c.args.self.now c.args.place.0 w.0 c.lower_counts.new.goals c.copy_within.new.self l m.0)
    c.requires.by_index.0.1 c.requires.by_index.1
