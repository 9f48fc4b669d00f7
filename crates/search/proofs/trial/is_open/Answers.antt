-- Each reason to leave the step out, however many steps are left. Assumes nothing.
use mathlib.Core.Path.{sym, ◌∙◌}
use Rattle.sheet_rows.proofs.Laws.{told}
use Rattle.hgn.proofs.Logic.Tests.{false_not_true}
use Rattle.search.proofs.Exploring.{not_so, so}
use Rattle.search.proofs.Trying.{closed_untaken, closed_first, closed_if, open_if}
use Rattle.search.proofs.trial.is_open.Goals as goal
use Rattle.search.proofs.trial.is_open.Goals.{then-may_take, else-may_take}

pub returns-then-not-commutes_with_last : goal.returns-then-not-commutes_with_last
returns-then-not-commutes_with_last c =
    let a = c.args in
    elim c.if-may_take.branch [
      | then-may_take w ↦
          open_if c.requires.indexed _ _ _ a.choice c.requires.known.1 w.if-may_take.ensures
          (told w.commutes_with_last.ensures (not_so _ (sym w.value-is ∙ c.if-not-commutes_with_last.true))) c.lower_too.result c.lower_too.ensures
      | else-may_take w ↦ absurd (false_not_true _ w.if-may_take.false (sym w.value-is ∙ c.if-not-commutes_with_last.true))
    ]

pub returns-else-not-commutes_with_last : goal.returns-else-not-commutes_with_last
returns-else-not-commutes_with_last c =
    let a = c.args in
    elim c.if-may_take.branch [
      | then-may_take w ↦
          closed_if c.requires.indexed _ _ _ a.choice c.requires.known.1 c.if-not-commutes_with_last.false
          (closed_first c.requires.indexed _ _ _ a.choice c.requires.known.1
          (told w.commutes_with_last.ensures (so _ (sym w.value-is ∙ c.if-not-commutes_with_last.false))))
      | else-may_take w ↦
          closed_if c.requires.indexed _ _ _ a.choice c.requires.known.1 c.if-not-commutes_with_last.false
          (closed_untaken c.requires.indexed _ _ _ a.choice c.requires.known.1 w.if-may_take.ensures)
    ]
