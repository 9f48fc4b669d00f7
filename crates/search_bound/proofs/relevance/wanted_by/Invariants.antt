-- Whether a goal wants the action is decided among the goals from `i` on. Assumes nothing.
use mathlib.Core.Path.{◌≡◌}
use lib.ListN.{drop}
use Rattle.hgn.specs.Lists.{any}
use Rattle.hgn.specs.State.{relevant}
use Rattle.hgn.specs.Run.{action_at}
use Rattle.hgn.specs.Shop.{domain}
use Rattle.network.specs.Goals.{list_in}
use Rattle.search_bound.proofs.relevance.wanted_by.Given as goal

abbrev pub invariant-loop-i : goal.invariant-loop-i
invariant-loop-i l =
    any (λ g. relevant (action_at (domain l.shop) l.action).effects g.formula) (list_in l.shop l.order l.goals)
    ≡ any (λ g. relevant (action_at (domain l.shop) l.action).effects g.formula) (drop l.i (list_in l.shop l.order l.goals))
