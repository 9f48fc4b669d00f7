-- Each turn goes on from the row, the record and the room that the one before it left (`TurnsSoFar`). Assumes nothing.
use mathlib.Core.Path.{ap, ◌∙◌}
use borrow.Author.Rules.{rules}
use Rattle.trace_reader.specs.declared.reader.Reader.{Reader}
use Rattle.listing_main.proofs.TurnsSoFar.{begun, over, turning, turned}
use Rattle.listing_main.proofs.steps.write_steps.Goals as goal

pub loop-step-init : goal.loop-step-init
loop-step-init g c =
    let opened = c.into_iter-step-iterator.ensures.into_iter_gives in (
      tt,
      tt,
      ap (λ (r : Reader). r.trace.now) opened ∙ ap (λ t. t.now) c.open-step-items.ensures.trace,
      begun (ap (λ (r : Reader). r.row.0) opened ∙ c.open-step-items.ensures.row) c.requires.1,
    )

pub turn-requires : goal.turn-requires
turn-requires g c =
    let step = c.in-Some.ensures.steps in
    (c.requires.0, turning c.loop-step.invariant.3 c.loop-step.invariant.2 step.reads step.numbered c.requires.1.roomy)

pub loop-step-preserved : goal.loop-step-preserved
loop-step-preserved g c =
    let step = c.in-Some.ensures.steps in
    let so_far = c.loop-step.invariant in (
      tt,
      tt,
      ap (λ t. t.now) step.held ∙ so_far.2,
      turned so_far.3 so_far.2 step.reads step.numbered c.in-Some-turn.ensures (search rules) step.onward,
    )

pub returns : goal.returns
returns g c all = over c.loop-step.invariant.3 c.loop-step.invariant.2 c.in-None.ensures.steps.0
