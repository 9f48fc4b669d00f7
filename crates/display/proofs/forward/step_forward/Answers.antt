-- The step's answer, and the record that it leaves. Assumes nothing.
use mathlib.Core.Path.{refl, ap, ap₂, ◌∙◌}
use Rattle.std.specs.Prelude.{Result, Err}
use Rattle.std.proofs.lemmas.Result.{err_from_is_err_and}
use Rattle.hgn.specs.State.{State}
use Rattle.network.specs.declared.goals.Goals.{Goals}
use Rattle.step.specs.declared.failure.Failure.{Failure}
use Rattle.step.specs.declared.problem.Problem.{Problem}
use Rattle.step.proofs.Taken.{step_refused, step_taken}
use Rattle.display.proofs.forward.step_forward.Goals as goal

pub returns-in_err-take : goal.returns-in_err-take
returns-in_err-take c =
    let p = err_from_is_err_and c.from_residual.result c.from_residual.ensures.1 in
    let t = c.in_err-take.ensures in
    step_refused _ _ _ _ _ t.0 c.requires.going.valid (p.1 ∙ ap {B = Result (Unit {0}) Failure} Err p.2)
    (ap₂ {C = Problem} (λ (s : State) (g : Goals). record { atoms = s; waiting = g }) t.1 t.2)

pub returns : goal.returns
returns c =
    let t = c.in_ok-take.ensures in
    step_taken _ _ _ _ _ (record { deed = _; comes = t.comes; valid = t.valid }) refl refl
