-- The facts that the loop leaves. Assumes nothing.
use borrow.Author.Rules.{rules}
use Rattle.display_main.proofs.AtomLines.{atoms_none, atoms_in, atoms_out, atoms_all}
use Rattle.display_main.proofs.moment.put_atoms.Goals as goal
use Rattle.display_main.proofs.moment.put_atoms.Goals.{then-atoms-atom, else-atoms-atom}

pub loop-atom-init : goal.loop-atom-init
loop-atom-init c = atoms_none _ _ _

pub loop-atom-preserved : goal.loop-atom-preserved
loop-atom-preserved c =
    elim c.if-atoms-atom.branch [
      | then-atoms-atom w ↦ rw (w.text-is, w.end-is)
          (atoms_in _ _ _ _ _ _ _ _ c.loop-atom.invariant c.loop-atom-test.true w.if-atoms-atom.true w.put-end.ensures.few (search rules) w.put-end.ensures.text)
      | else-atoms-atom w ↦ rw (w.text-is, w.end-is) (atoms_out _ _ _ _ _ _ c.loop-atom.invariant c.loop-atom-test.true w.if-atoms-atom.false)
    ]

pub returns-clause-text : goal.returns-clause-text
returns-clause-text c = atoms_all _ _ _ _ _ _ c.loop-atom.invariant c.loop-atom-test.false
