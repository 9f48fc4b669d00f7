-- The order's goals and the table, then the run. Assumes nothing.
use mathlib.Core.Path.{◌∙◌, ap₂}
use mathlib.Core.List.{List}
use Rattle.hgn.specs.State.{State}
use Rattle.hgn.specs.Network.{Waiting}
use Rattle.hgn.specs.Replay as Replay
use Rattle.hgn.proofs.Sheets.Checked.{order_of_trace}
use Rattle.hgn.proofs.Sheets.Trace.{trace_sizes}
use Rattle.replay.specs.Answers.{run_answer}
use Rattle.replay.proofs.call.run_indexed.Goals as goal

pub begun-requires : goal.begun-requires
begun-requires c =
    record {
      order_value = order_of_trace c.args.shop.now c.args.order.now c.args.trace.now c.requires.trace_value;
      most_methods_in_bounds = c.requires.most_methods_in_bounds;
    }

pub write_start-requires : goal.write_start-requires
write_start-requires c = order_of_trace c.args.shop.now c.args.order.now c.args.trace.now c.requires.trace_value

pub take_all-requires : goal.take_all-requires
take_all-requires c =
    record {
      indexed = (c.begun.ensures.0, c.begun.ensures.1);
      trace_in_bounds = trace_sizes c.args.shop.now c.args.order.now c.args.trace.now c.requires.trace_value;
    }

pub returns : goal.returns
returns c =
    c.take_all.ensures
    ∙ ap₂ {C = Replay.Answer} (λ (st : State) (w : List Waiting). run_answer c.args.shop.now c.args.trace.now (record { state = st; waiting = w }))
    c.write_start.ensures c.begun.ensures.1.list
