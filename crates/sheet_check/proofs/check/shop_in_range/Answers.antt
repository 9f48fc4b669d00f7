-- The tests are the definition's. Assumes nothing.
use native.Mathlib.Omega.{arith}
use Rattle.hgn.specs.Shop.{sizes_in_range}
use Rattle.std.proofs.lemmas.Bool.Decides.{nat_tests}
use Rattle.sheet_check.proofs.check.shop_in_range.Goals as goal

pub returns-then-sizes-le-MOST_METHODS : goal.returns-then-sizes-le-MOST_METHODS
unfolding sizes_in_range
returns-then-sizes-le-MOST_METHODS c shop s = rw (← s.atoms, ← s.actions, ← s.methods, ← s.rows) (grind (arith, nat_tests))

pub returns-else-sizes-le-MOST_METHODS : goal.returns-else-sizes-le-MOST_METHODS
unfolding sizes_in_range
returns-else-sizes-le-MOST_METHODS c shop s = rw (← s.atoms, ← s.actions, ← s.methods, ← s.rows) (grind (arith, nat_tests))
