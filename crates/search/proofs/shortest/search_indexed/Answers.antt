-- The first state, the order's goals and the tables, then the search by depth, which finds what the definition does (`Pruned` of `search_theory`).
-- Assumes nothing.
use mathlib.Core.Path.{◌∙◌, ap₂}
use mathlib.Core.List.{List}
use Rattle.hgn.specs.State.{State}
use Rattle.hgn.specs.Network.{Waiting}
use Rattle.hgn.specs.Replay.{rules_of}
use Rattle.search_theory.specs.Pruned.{pruned_shortest}
use Rattle.search_theory.proofs.Pruned.{pruned_searched}
use Rattle.replay.proofs.TakenSteps.{going_first}
use Rattle.search.proofs.shortest.search_indexed.Goals as goal

pub deepen-requires : goal.deepen-requires
deepen-requires c = (going_first _ c.begun.ensures.1, c.requires.order_value.1)

pub returns : goal.returns
returns c = (
  c.deepen.ensures.0
      ∙ ap₂ (λ (a : State) (w : List Waiting). pruned_shortest c.args.depth (rules_of c.args.shop.now) (record { state = a; waiting = w }))
      c.start-atoms.ensures c.begun.ensures.1.list
      ∙ pruned_searched c.args.shop.now c.args.order.now c.args.depth c.requires.order_value.0 c.requires.order_value.1,
  c.deepen.ensures.1,
)
