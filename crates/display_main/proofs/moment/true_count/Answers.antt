-- The facts that the loop leaves. Assumes nothing.
use Rattle.display_main.proofs.AtomLines.{counted_none, counted_in, counted_out, counted_all}
use Rattle.display_main.proofs.moment.true_count.Goals as goal
use Rattle.display_main.proofs.moment.true_count.Goals.{then-atoms-atom, else-atoms-atom}

pub loop-atom-init : goal.loop-atom-init
loop-atom-init c = counted_none _

pub loop-atom-preserved : goal.loop-atom-preserved
loop-atom-preserved c =
    elim c.if-atoms-atom.branch [
      | then-atoms-atom w ↦ rw w.count-is (counted_in _ _ _ c.loop-atom.invariant c.loop-atom-test.true w.if-atoms-atom.true)
      | else-atoms-atom w ↦ rw w.count-is (counted_out _ _ _ c.loop-atom.invariant c.loop-atom-test.true w.if-atoms-atom.false)
    ]

pub returns : goal.returns
returns c = counted_all _ _ _ c.loop-atom.invariant c.loop-atom-test.false
