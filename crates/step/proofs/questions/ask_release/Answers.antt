-- The goal holds, or its test names the unmet atom. Assumes nothing.
use Prim.Native.Nat.{ℕ}
use mathlib.Core.Path.{sym, ap, ◌∙◌}
use mathlib.Core.Bool.{false}
use Rattle.hgn.specs.Questions.{◌asks◌, ◌naming◌, refused}
use Rattle.step.proofs.Bodies.{own_holds, own_29}
use Rattle.step.proofs.Decided.{goal_holds, goal_fails}
use Rattle.step.proofs.questions.ask_release.Goals as goal

pub returns-in-Ok : goal.returns-in-Ok
returns-in-Ok c load n P p f = sym (own_holds _ _ _ _ _ _ n p P f (goal_holds c.in-Ok.ensures))

pub returns-in-Err : goal.returns-in-Err
returns-in-Err c load n P p f =
    let u = goal_fails c.in-Err.ensures in
    ap refused c.unmet.ensures ∙ sym (own_29 _ _ _ _ _ _ n p P f u.0 ∙ ap (λ (k : ℕ). refused (29 asks false naming k).failure) u.1)
