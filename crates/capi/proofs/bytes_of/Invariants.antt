-- After `i` turns the first `i` bytes stand. Assumes nothing.
use Prim.Native.Nat.{◌≤◌}
use Rattle.hgn.specs.State.{most_atoms}
use Rattle.capi.proofs.Bytes.{FirstBytes}
use Rattle.capi.proofs.bytes_of.Given as goal

abbrev pub invariant-loop-i : goal.invariant-loop-i
invariant-loop-i l = (l.i ≤ most_atoms) × FirstBytes l.atoms l.initial.bytes l.i l.bytes
