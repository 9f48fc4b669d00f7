-- The row's literal is wanted. Assumes nothing.
use mathlib.Core.Path.{refl, subst}
use mathlib.Core.List.{Memᴰ}
use Rattle.search_bound.proofs.least.add_row.Goals as goal

pub returns-in-Some : goal.returns-in-Some
returns-in-Some c shop P is e o h k =
    c.add_achiever.ensures shop P is e o (h _ (subst (Memᴰ _) c.in-Some.ensures (Memᴰ.head refl))) k
