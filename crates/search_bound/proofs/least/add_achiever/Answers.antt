-- Where the table names an action alone, it is needed; where it names none, no trace is accepted. Assumes nothing.
use native.Mathlib.Omega.{arith}
use mathlib.Core.Path.{sym}
use Rattle.search_bound.proofs.NeededMoves.{achiever_added, achiever_none}
use Rattle.search_bound.proofs.least.add_achiever.Goals as goal

pub returns-in-None : goal.returns-in-None
returns-in-None c shop P is e o h k =
    achiever_none shop P c.args.table.now _ (omega arith) c.holds.ensures c.if-holds.false is o h (sym c.in-None.ensures) c.give_up.ensures k

pub returns-in-Only : goal.returns-in-Only
returns-in-Only c shop P is e o h k =
    achiever_added shop P c.args.table.now _ (omega arith) c.holds.ensures c.if-holds.false is o h (sym c.in-Only.ensures) (omega arith)
    (rw c.from-in-Only.ensures at c.add.ensures) k
