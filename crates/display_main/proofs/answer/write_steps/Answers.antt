-- The steps that were taken have led to the record, and their bytes are counted (`Turning`). Assumes nothing.
use mathlib.Core.Path.{refl, sym, ap, ◌∙◌}
use borrow.Author.Rules.{rules}
use Rattle.trace_reader.specs.declared.reader.Reader.{Reader}
use Rattle.display_main.proofs.Checks.{taken_number, refused_number}
use Rattle.display_main.proofs.ShownTexts.{turning_none, at_step, turning_over, turning_ends, turning_more, counted, few_front}
use Rattle.display_main.proofs.answer.write_steps.Goals as goal

pub loop-step-init : goal.loop-step-init
loop-step-init g c =
    let opened = c.into_iter-step-iterator.ensures.into_iter_gives in (
      tt,
      tt,
      ap (λ (r : Reader). r.trace.now) opened ∙ ap (λ t. t.now) c.open-step-items.ensures.trace,
      rw (ap (λ (r : Reader). r.row.0) opened ∙ c.open-step-items.ensures.row) (turning_none _ _ _ _ _ c.requires.prepared.0),
      refl,
    )

pub returns-in-Err : goal.returns-in-Err
returns-in-Err g c =
    let step = c.in-Some.ensures.steps in
    let so_far = at_step _ _ _ _ step.numbered c.loop-step.invariant.2 c.loop-step.invariant.3 step.reads in
    let bytes = counted _ _ c.in_ok-bytes.ensures (c.front.ensures ∙ c.take_turn-turn.ensures.text) in
    turning_ends _ _ _ _ _ so_far.0 _ so_far.1 c.take_turn-turn.result.shown c.take_turn-turn.ensures.shown bytes (refused_number c.in-Err.is)

pub loop-step-preserved : goal.loop-step-preserved
loop-step-preserved g c =
    let step = c.in-Some.ensures.steps in
    let so_far = at_step _ _ _ _ step.numbered c.loop-step.invariant.2 c.loop-step.invariant.3 step.reads in
    let bytes = counted _ _ c.in_ok-bytes.ensures (c.front.ensures ∙ c.take_turn-turn.ensures.text) in
    let few = few_front _ _ (sym c.take_turn-turn.ensures.text) c.take_turn-turn.ensures.few in (
      tt,
      tt,
      ap (λ t. t.now) step.held ∙ c.loop-step.invariant.2,
      rw (step.onward, ← step.numbered)
          (turning_more _ _ _ _ _ so_far.0 _ so_far.1 c.take_turn-turn.result.shown c.take_turn-turn.ensures.shown bytes few (taken_number c.in-Ok.is)),
      search rules,
    )

pub returns : goal.returns
returns g c = turning_over _ _ _ _ _ c.loop-step.invariant.3 (rw c.loop-step.invariant.2 at c.in-None.ensures.steps.0)
