-- The text holds what stood in front, then a line for each true atom passed (`AtomLines`). Assumes nothing.
use Rattle.display_main.proofs.AtomLines.{AtomLines}
use Rattle.display_main.proofs.moment.put_atoms.Given as goal

abbrev pub invariant-loop-atom : goal.invariant-loop-atom
invariant-loop-atom l = AtomLines l.atoms l.initial.text l.text l.at l.end l.atom
