-- Each sheet is asked where those before it passed. Assumes nothing.
use Prim.Native.Nat.{ℕ}
use mathlib.Core.Path.{◌≡◌, refl, sym, ap, ◌∙◌}
use mathlib.Core.List.{List, ◌++◌}
use Rattle.hgn.specs.Questions.{no_refusal, first_no, answered}
use Rattle.hgn.specs.Shop.{check_shop, shop_questions}
use Rattle.hgn.specs.Order.{order_questions}
use Rattle.hgn.proofs.Questions.FirstNo.{answered_on, answered_stop}
use Rattle.hgn.proofs.Questions.Numbers.{shop_numbers, of_order_law, not_zero}
use Rattle.sheet_rows.proofs.Laws.{numbered, handed_on}
use Rattle.sheet_join.proofs.call.ask_sheets.Goals as goal

-- Behind a shop sheet that passed, an order's questions tell what they tell alone.
behind_shop : (shop sheet : List ℕ) → no_refusal ≡ answered (check_shop shop)
    → answered (first_no (order_questions shop sheet)) ≡ answered (first_no (shop_questions shop ++ order_questions shop sheet))
unfolding check_shop
behind_shop shop sheet e = ap answered (sym (answered_on _ _ _ e (shop_numbers _ not_zero _) refl))

pub returns-in_err-check_shop : goal.returns-in_err-check_shop
unfolding check_shop
returns-in_err-check_shop c =
    handed_on _ _ c.from_residual.ensures.1
    ∙ answered_stop _ _ _ (answered_stop _ _ _ c.in_err-check_shop.ensures (numbered _)) (numbered _)

pub returns-in_err-ask_order : goal.returns-in_err-ask_order
returns-in_err-ask_order c =
    handed_on _ _ c.from_residual-in_err-ask_order.ensures.1
    ∙ answered_stop _ _ _ (c.in_err-ask_order.ensures ∙ behind_shop _ _ c.in_ok-check_shop.ensures) (numbered _)

pub returns : goal.returns
returns c =
    c.ask_order-2.ensures
    ∙ ap answered (sym (answered_on _ _ _ (c.in_ok-ask_order.ensures ∙ behind_shop _ _ c.in_ok-check_shop.ensures) (of_order_law _ not_zero _ _) refl))
