-- Of two actions, by the states that they leave. Assumes nothing.
use Rattle.search_pruning.proofs.Swaps.{commute_first, commute_second, commute_both}
use Rattle.search_pruning.proofs.rules.commute.Goals as goal

pub returns-in-Act-Act : goal.returns-in-Act-Act
returns-in-Act-Act c =
    commute_both _ _ c.in-Act-Act.is-0 c.in-Act-Act.is-1 c.act.ensures c.act-in-Act-Act.ensures c.act-in-Act-Act-2.ensures c.act-in-Act-Act-3.ensures
    c.eq.ensures

pub returns-in_default : goal.returns-in_default
returns-in_default c = commute_second _ _ _ _ c.in_default.not-Act-1

pub returns-in_default-2 : goal.returns-in_default-2
returns-in_default-2 c = commute_first _ _ _ _ c.in_default.not-Act-0
