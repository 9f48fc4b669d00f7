-- The true atoms among those passed are counted (`Counted`). Assumes nothing.
use Rattle.display_main.proofs.AtomLines.{Counted}
use Rattle.display_main.proofs.moment.true_count.Given as goal

abbrev pub invariant-loop-atom : goal.invariant-loop-atom
invariant-loop-atom l = Counted l.atoms l.count l.atom
