-- The tests are the definition's. Assumes nothing.
use native.Mathlib.Omega.{arith}
use Rattle.hgn.specs.Order.{sizes_in_range}
use Rattle.std.proofs.lemmas.Bool.Decides.{nat_tests}
use Rattle.sheet_check.proofs.check.order_in_range.Goals as goal

pub returns-then-sizes-le-MOST_GOALS : goal.returns-then-sizes-le-MOST_GOALS
unfolding sizes_in_range
returns-then-sizes-le-MOST_GOALS c shop sheet f s = rw (← f.atoms, ← s.atoms, ← s.goals, ← s.rows) (grind (arith, nat_tests))

pub returns-else-sizes-le-MOST_GOALS : goal.returns-else-sizes-le-MOST_GOALS
unfolding sizes_in_range
returns-else-sizes-le-MOST_GOALS c shop sheet f s = rw (← f.atoms, ← s.atoms, ← s.goals, ← s.rows) (grind (arith, nat_tests))
