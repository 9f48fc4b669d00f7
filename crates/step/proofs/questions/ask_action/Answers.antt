-- The needs hold, or their test names the unmet atom. Assumes nothing.
use Prim.Native.Nat.{ℕ}
use mathlib.Core.Path.{sym, ap, ◌∙◌}
use mathlib.Core.Bool.{false}
use Rattle.hgn.specs.Questions.{◌asks◌, ◌naming◌, refused}
use Rattle.sheet_rows.proofs.Laws.{told}
use Rattle.step.proofs.Bodies.{act_30, act_31, act_passed}
use Rattle.step.proofs.Decided.{needs_hold, needs_fail}
use Rattle.step.proofs.questions.ask_action.Goals as goal

pub returns-in-Err : goal.returns-in-Err
returns-in-Err c k load a n P p f =
    let u = rw a.needs at (needs_fail c.in-Err.ensures) in
    ap refused c.unmet.ensures ∙ sym (act_30 _ _ _ _ _ _ n p P f k u.0 ∙ ap (λ (k : ℕ). refused (30 asks false naming k).failure) u.1)

pub returns-then-not-relevant_to : goal.returns-then-not-relevant_to
returns-then-not-relevant_to c k load a n P p f =
    let h = needs_hold c.in_default.ensures in
    ap refused c.by.ensures
    ∙ sym (act_31 _ _ _ _ _ _ n p P f k (rw a.needs at h) (rw a.effects at (told c.relevant_to.ensures c.if-not-relevant_to.true)))

pub returns : goal.returns
returns c k load a n P p f =
    let h = needs_hold c.in_default.ensures in
    sym (act_passed _ _ _ _ _ _ n p P f k (rw a.needs at h) (rw a.effects at (told c.relevant_to.ensures c.if-not-relevant_to.false)))
