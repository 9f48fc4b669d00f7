-- The questions are the definition's, in its order. Assumes nothing.
use mathlib.Core.Path.{sym, ap, ◌∙◌}
use Rattle.hgn.specs.Questions.{answered}
use Rattle.sheet_rows.proofs.Laws as Laws
use Rattle.sheet_check.proofs.Checks.{order_end_17, order_end_18, order_end_passed}
use Rattle.sheet_check.proofs.check.order_end.Goals as goal

pub returns-then-not-may_end : goal.returns-then-not-may_end
returns-then-not-may_end c sheet sc s =
    c.by.ensures ∙ ap answered (sym (order_end_17 sheet _ sc (Laws.told c.may_end.ensures c.if-not-may_end.true)))

pub returns-then-scan-sizes : goal.returns-then-scan-sizes
returns-then-scan-sizes c sheet sc s =
    c.by-then-scan-sizes.ensures
    ∙ ap answered (sym (order_end_18 sheet _ sc (Laws.told c.may_end.ensures c.if-not-may_end.false)
    (λ z. c.if-scan-sizes.true (z ∙ sym s.goals))))

pub returns : goal.returns
returns c sheet sc s =
    ap answered (sym (order_end_passed sheet _ sc (Laws.told c.may_end.ensures c.if-not-may_end.false) (c.if-scan-sizes.false ∙ s.goals)))
