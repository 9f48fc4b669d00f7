-- What follows a check is asked where it passed. Assumes nothing.
use mathlib.Core.Path.{refl, sym, ap, ◌∙◌}
use Rattle.hgn.specs.Questions.{answered}
use Rattle.hgn.specs.Shop.{check_shop}
use Rattle.hgn.specs.Order.{check_order}
use Rattle.hgn.proofs.Questions.FirstNo.{answered_on, answered_stop}
use Rattle.hgn.proofs.Questions.Numbers.{shop_numbers, not_zero}
use Rattle.sheet_rows.proofs.Laws.{numbered, handed_on}
use Rattle.sheet_check.proofs.check.check_order.Goals as goal

pub returns-in_err-check_shop : goal.returns-in_err-check_shop
unfolding check_shop check_order
returns-in_err-check_shop c = handed_on _ _ c.from_residual.ensures.1 ∙ answered_stop _ _ _ c.in_err-check_shop.ensures (numbered _)

pub returns : goal.returns
unfolding check_shop check_order
returns c = c.ask_order.ensures ∙ ap answered (sym (answered_on _ _ _ c.in_ok-check_shop.ensures (shop_numbers _ not_zero _) refl))
