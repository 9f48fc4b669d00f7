-- The order's rows are the whole of its span. Assumes nothing.
use Prim.Native.Nat.{ℕ}
use mathlib.Core.Path.{ap, ◌∙◌}
use mathlib.Core.Bool.{true}
use mathlib.Core.List.{List}
use Rattle.hgn.specs.Run.{start_of}
use Rattle.hgn.specs.Rows.{Row, values_tagged}
use Rattle.hgn.specs.Meaning.{order_of}
use Rattle.hgn.specs.Order as Order
use Rattle.hgn.specs.State.{assign, empty_state}
use Rattle.sheet_rows.specs.declared.position.Sheet.TheVariants as Of
use Rattle.sheet_index.specs.Index.{span_of, span_rows}
use Rattle.replay.proofs.Firsts.{whole_rows}
use Rattle.replay.proofs.first.write_start.Goals as goal

pub returns : goal.returns
unfolding Order.order order_of start_of empty_state
returns c =
    c.assign.ensures
    ∙ ap (λ (l : List Row). assign true (values_tagged 12 l) empty_state)
    (c.rows.ensures.rows
    ∙ ap (λ (n : ℕ). span_rows c.args.shop.now c.args.order.now (span_of Of.Order 0 n)) c.word.ensures
    ∙ whole_rows c.args.shop.now c.args.order.now c.requires)
