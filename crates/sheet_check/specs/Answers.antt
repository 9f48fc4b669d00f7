-- What is asked of a sheet before and after its rows, as the checks' functions share it. Document 01, "Questions".
use Rattle.std.specs.Prelude.{ℕ, ◌≡◌, Bool, List, ◌++◌, Result}
use Rattle.hgn.specs.Questions.{first_no, answered}
use Rattle.hgn.specs.Shop as Shop
use Rattle.hgn.specs.Shop.{shop_rows, shop_end_questions}
use Rattle.hgn.specs.Order as Order
use Rattle.hgn.specs.Order.{order_rows, order_end_questions}
use Rattle.sheet_rows.specs.Refusals.{answer_of}
use Rattle.sheet_rows.specs.declared.position.Sheet.TheVariants as Of
use Rattle.sheet_rows.specs.declared.refusal.Refusal.{Refusal}
use Rattle.sheet_check.specs.Scanned.{Passed, questions_of}
use Rattle.sheet_check.specs.declared.rows.Scan.{Scan}
use Rattle.sheet_check.specs.declared.sizes.ShopSizes.{ShopSizes}
use Rattle.sheet_check.specs.declared.sizes.OrderSizes.{OrderSizes}
use Rattle.sheet_check.specs.Sizes.{ShopSized, OrderSized}

-- The answer says whether the sizes of a sheet are in range, of every sheet that has these sizes.
abbrev pub ShopInRange : ShopSizes → Bool → Type 0
ShopInRange sizes r = (shop : List ℕ) → ShopSized shop sizes → r ≡ Shop.sizes_in_range shop

abbrev pub OrderInRange : ShopSizes → OrderSizes → Bool → Type 0
OrderInRange of_shop sizes r = (shop sheet : List ℕ) → ShopSized shop of_shop → OrderSized sheet sizes → r ≡ Order.sizes_in_range shop sheet

-- Of any shop sheet of these sizes of which the rows came to this scan: the first no from its rows on.
abbrev pub ShopEnds : Scan → ShopSizes → Result (Unit {0}) Refusal → Type 0
ShopEnds s sizes r = (shop : List ℕ) → Passed Of.Shop (Shop.atom_count shop) (shop_rows shop) s → ShopSized shop sizes
    → answer_of r ≡ answered (first_no (questions_of Of.Shop (Shop.atom_count shop) (shop_rows shop) ++ shop_end_questions shop))

-- Of any order sheet of these sizes of which the rows came to this scan: the first no from its rows on.
abbrev pub OrderEnds : Scan → OrderSizes → Result (Unit {0}) Refusal → Type 0
OrderEnds s sizes r = (sheet : List ℕ) → Passed Of.Order (Order.atom_count sheet) (order_rows sheet) s → OrderSized sheet sizes
    → answer_of r ≡ answered (first_no (questions_of Of.Order (Order.atom_count sheet) (order_rows sheet) ++ order_end_questions sheet))
