-- While the loop runs, no trace of fewer steps is found (`Depths`). Assumes nothing.
use Rattle.hgn.specs.Replay.{rules_of}
use Rattle.search.specs.Trials.{problem_at}
use Rattle.search.proofs.Depths.{NoneBelow}
use Rattle.search.proofs.shortest.deepen.Given as goal

abbrev pub invariant-loop-left : goal.invariant-loop-left
invariant-loop-left l = NoneBelow l.depth (rules_of l.given.shop.now) (problem_at l.given l.start) l.left
