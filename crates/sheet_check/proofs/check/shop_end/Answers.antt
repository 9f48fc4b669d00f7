-- The questions are the definition's, in its order. Assumes nothing.
use mathlib.Core.Path.{sym, ap, ◌∙◌}
use Rattle.hgn.specs.Questions.{placed, answered}
use Rattle.sheet_rows.proofs.Laws as Laws
use Rattle.sheet_check.proofs.Checks.{shop_end_7, shop_end_actions, shop_end_methods, shop_end_9, shop_end_passed}
use Rattle.sheet_check.proofs.check.shop_end.Goals as goal
use Rattle.sheet_check.proofs.check.shop_end.Goals.{then-scan-sizes-via-then-scan-sizes, then-scan-sizes-via-else-scan-sizes+then-scan-sizes-2}

pub returns-then-not-may_end : goal.returns-then-not-may_end
returns-then-not-may_end c shop sc s =
    c.by.ensures ∙ ap answered (sym (shop_end_7 shop _ sc (Laws.told c.may_end.ensures c.if-not-may_end.true)))

pub returns-then-scan-sizes : goal.returns-then-scan-sizes
returns-then-scan-sizes c shop sc s =
    let ends = Laws.told c.may_end.ensures c.if-not-may_end.false in
    c.by-then-scan-sizes.ensures
    ∙ ap answered (sym (elim c.then-scan-sizes.branch [
      | then-scan-sizes-via-then-scan-sizes w ↦ shop_end_actions shop _ sc ends (λ z. w.if-scan-sizes.true (z ∙ sym s.actions))
      | then-scan-sizes-via-else-scan-sizes+then-scan-sizes-2 w ↦
          shop_end_methods shop _ sc ends (w.if-scan-sizes.false ∙ s.actions) (λ z. w.if-scan-sizes-2.true (z ∙ sym s.methods))
    ]))

pub returns-in-Some : goal.returns-in-Some
returns-in-Some c shop sc s =
    c.at.ensures
    ∙ ap (placed _) c.by-in-Some.ensures
    ∙ ap answered (sym (shop_end_9 shop _ sc (Laws.told c.may_end.ensures c.if-not-may_end.false)
    (c.if-scan-sizes.false ∙ s.actions) (c.if-scan-sizes-2.false ∙ s.methods) c.closed.ensures c.in-Some.is))

pub returns-in-None : goal.returns-in-None
returns-in-None c shop sc s =
    ap answered (sym (shop_end_passed shop _ sc (Laws.told c.may_end.ensures c.if-not-may_end.false)
    (c.if-scan-sizes.false ∙ s.actions) (c.if-scan-sizes-2.false ∙ s.methods) c.closed.ensures c.in-None.is))
