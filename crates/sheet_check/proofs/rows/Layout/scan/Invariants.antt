-- Before each row the rows passed have led to the position and the counts at hand (`Going`). Assumes nothing.
use Rattle.hgn.specs.Rows.{rows_of}
use Rattle.sheet_check.proofs.Scans.{Going}
use Rattle.sheet_check.proofs.rows.Layout.scan.Given as goal

abbrev pub invariant-loop-i : goal.invariant-loop-i
invariant-loop-i l = Going l.sheet l.atoms (rows_of l.self.sizes l.self.rows l.words) l.i l.position l.counts
