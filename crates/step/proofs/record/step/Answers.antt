-- The step on a record answers what the step in place comes to, at its atoms and words. Assumes nothing.
use Rattle.std.proofs.lemmas.Result.{err_from_is_err_and}
use Rattle.step.proofs.record.step.Goals as goal

pub returns-in_err-take : goal.returns-in_err-take
returns-in_err-take c =
    let p = err_from_is_err_and c.from_residual.result c.from_residual.ensures.1 in
    rw (p.1, p.2) c.in_err-take.ensures.0

pub returns : goal.returns
returns c = record { deed = _; comes = c.in_ok-take.ensures.comes; valid = c.in_ok-take.ensures.valid }
