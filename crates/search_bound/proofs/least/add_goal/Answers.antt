-- Of one alternative every literal stands in each. Assumes nothing.
use mathlib.Core.Path.{sym, subst}
use mathlib.Core.List.{List}
use Rattle.hgn.specs.Rows.{Row}
use Rattle.hgn.specs.Meaning.{node_of}
use Rattle.hgn.specs.Replay.{rules_of}
use Rattle.search_bound.specs.NeededMoves.{WantedFormula}
use Rattle.search_bound.proofs.Wants.{alternative_wanted}
use Rattle.search_bound.proofs.least.add_goal.Goals as goal

pub returns-then-one_alternative : goal.returns-then-one_alternative
returns-then-one_alternative c shop P is e o h k =
    c.add_rows.ensures shop P is e o
    (alternative_wanted (rules_of shop) P (c.one_alternative.ensures c.if-one_alternative.true)
    (subst (λ (rs : List Row). WantedFormula (node_of rs).formula (rules_of shop) P) (sym c.rows-rows.ensures.rows) h))
    k
