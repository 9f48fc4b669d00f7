-- The facts that the loop leaves. Assumes nothing.
use Prim.Native.Nat.{ℕ}
use native.Mathlib.Omega.{arith}
use mathlib.Core.Path.{ap, ◌∙◌}
use mathlib.Core.List.{[]}
use lib.ListN.{get_or}
use Rattle.hgn.specs.Questions as Questions
use Rattle.hgn.specs.Replay.{refusal}
use Rattle.network.proofs.WaitingGoals.{list_length}
use Rattle.replay.proofs.Running.{running_start}
use Rattle.replay.proofs.Totals.{run_stops, run_ended}
use Rattle.step.proofs.TakenSteps.{going_next}
use Rattle.replay.proofs.TakenSteps.{run_goes, going_first}
use Rattle.replay.proofs.run.take_all.Goals as goal

pub loop-number-init : goal.loop-number-init
loop-number-init c = (running_start _ _ _, going_first _ c.requires.indexed.1)

pub returns-in-Err : goal.returns-in-Err
returns-in-Err c =
    ap (λ (f : Questions.Failure). (refusal [] f).answer) c.at.ensures
    ∙ run_stops c.args.shop.now c.args.trace.now c.requires.trace_in_bounds.0 _ c.loop-number.number _ _ _ c.loop-number.invariant.0
    (omega (arith, c.of-sizes.ensures.steps)) _ _ c.word.ensures
    (c.word-in-loop-number.ensures ∙ ap (λ (k : ℕ). get_or c.args.trace.now k 0) (omega (arith, c.of-sizes.ensures.steps))) _ c.in-Err.ensures.0

pub loop-number-preserved : goal.loop-number-preserved
loop-number-preserved c = (
  run_goes c.args.shop.now c.args.order.now c.args.trace.now c.requires.trace_in_bounds.0 _ c.loop-number.number c.loop-number.atoms c.loop-number.waiting
      c.loop-number.totals c.loop-number.invariant.0 (omega (arith, c.of-sizes.ensures.steps)) _ _ c.word.ensures
      (c.word-in-loop-number.ensures ∙ ap (λ (k : ℕ). get_or c.args.trace.now k 0) (omega (arith, c.of-sizes.ensures.steps))) _ _ _
      c.in-Ok.ensures c.with-totals.ensures,
  going_next (omega arith) c.loop-number.invariant.1 c.in-Ok.ensures,
)

pub returns : goal.returns
returns c =
    let steps = c.of-sizes.ensures.steps in
    c.ended.ensures c.loop-number.atoms
    ∙ rw (steps, c.len.ensures, ← list_length c.args.shop.now c.args.order.now c.loop-number.waiting)
    (run_ended c.args.shop.now c.args.trace.now c.requires.trace_in_bounds.0 _ c.loop-number.number _ _ _ c.loop-number.invariant.0
    (omega (arith, c.loop-number-test.false, steps)))
