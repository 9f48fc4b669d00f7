-- Each step of the trace is taken, and the steps behind it are accepted from what it leaves (`Ahead`). Assumes nothing.
use mathlib.Core.Path.{ap, ◌∙◌}
use Rattle.trace_reader.specs.declared.reader.Reader.{Reader}
use Rattle.cases_main.proofs.Accepted.{all_ahead, asks, read_on}
use Rattle.cases_main.proofs.listed.write_lines.Goals as goal

pub loop-step-init : goal.loop-step-init
loop-step-init g c =
    let opened = c.into_iter-step-iterator.ensures.into_iter_gives in (
      tt,
      tt,
      ap (λ (r : Reader). r.trace.now) opened ∙ ap (λ t. t.now) c.open-step-items.ensures.trace,
      rw (ap (λ (r : Reader). r.row.0) opened ∙ c.open-step-items.ensures.row) (all_ahead _ _ _ _ _ c.requires.0 c.requires.1),
    )

pub take_step-told-requires : goal.take_step-told-requires
take_step-told-requires g c =
    let step = c.in-Some.ensures.steps in
    let so_far = c.loop-step.invariant in
    (c.requires.0.indexed, asks so_far.3 so_far.2 step.reads step.numbered)

pub loop-step-preserved : goal.loop-step-preserved
loop-step-preserved g c =
    let step = c.in-Some.ensures.steps in
    let so_far = c.loop-step.invariant in
    (tt, tt, ap (λ t. t.now) step.held ∙ so_far.2, read_on so_far.3 so_far.2 step.reads step.numbered c.take_step-told.ensures step.onward)

pub loop-step-preserved-in-Some-told : goal.loop-step-preserved-in-Some-told
loop-step-preserved-in-Some-told g c =
    let step = c.in-Some.ensures.steps in
    let so_far = c.loop-step.invariant in
    (tt, tt, ap (λ t. t.now) step.held ∙ so_far.2, read_on so_far.3 so_far.2 step.reads step.numbered c.take_step-told.ensures step.onward)
