-- The depth is that of the digits so far (`Read`). Assumes nothing.
use Rattle.search_main.proofs.Depths.{Read}
use Rattle.search_main.proofs.depth.depth_of.Given as goal

abbrev pub invariant-loop-byte : goal.invariant-loop-byte
invariant-loop-byte l = Read l.text l.depth l.byte-index
