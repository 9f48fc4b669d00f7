-- Whether every goal holds is decided among the goals from `i` on. Assumes nothing.
use mathlib.Core.Path.{◌≡◌}
use lib.ListN.{drop}
use Rattle.hgn.specs.Lists.{all}
use Rattle.hgn.specs.State.{formula_holds}
use Rattle.network.specs.Goals.{list_in}
use Rattle.search_pruning.proofs.rules.goals_hold.Given as goal

abbrev pub invariant-loop-i : goal.invariant-loop-i
invariant-loop-i l =
    all (λ g. formula_holds l.atoms g.formula) (list_in l.shop l.order l.goals)
    ≡ all (λ g. formula_holds l.atoms g.formula) (drop l.i (list_in l.shop l.order l.goals))
