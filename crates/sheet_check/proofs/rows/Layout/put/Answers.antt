-- The room is as long behind the first write as it was. Assumes nothing.
use native.Mathlib.Omega.{arith}
use lib.ListN.{length-set}
use Rattle.sheet_check.proofs.rows.Layout.put.Goals as goal

pub bounds-room-self-2 : goal.bounds-room-self-2
bounds-room-self-2 c = simp length-set (omega arith)
