-- The step comes to what was decided of it. Assumes nothing.
use mathlib.Core.Path.{refl, sym, ap, ◌∙◌}
use Rattle.hgn.specs.Run.{refused}
use Rattle.step.proofs.TakenSteps.{status_at, taking_may, taken_by}
use Rattle.step.proofs.taking.take.Goals as goal

pub apply-requires-clause-may_apply : goal.apply-requires-clause-may_apply
apply-requires-clause-may_apply c =
    taking_may _ _ c.args.step.number _ _ _
    (c.in-Ok.ensures _ (status_at _ _ _ _ c.requires.indexed.1.valid _ _ c.len-count.ensures c.get-goal.ensures))

pub returns-in-Ok : goal.returns-in-Ok
returns-in-Ok c =
    taken_by _ _ _ _ _ _ (c.in-Ok.ensures _ (status_at _ _ _ _ c.requires.indexed.1.valid _ _ c.len-count.ensures c.get-goal.ensures))
    c.apply.ensures

pub returns-in-Err : goal.returns-in-Err
returns-in-Err c =
    let valid = c.requires.indexed.1.valid in
    let q = c.in-Err.ensures _ (status_at _ _ _ _ valid _ _ c.len-count.ensures c.get-goal.ensures) c.args.step.number in
    (q ∙ ap refused (sym (c.with_question_27.ensures _ _ valid)), refl, refl)
