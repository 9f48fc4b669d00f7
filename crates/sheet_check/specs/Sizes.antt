-- The code's sizes are those in the first words of a sheet. Document 01, "The three sheets".
use Rattle.std.specs.Prelude.{ℕ, ◌≡◌, List}
use Rattle.hgn.specs.Shop as Shop
use Rattle.hgn.specs.Order as Order
use Rattle.hgn.specs.Trace as Trace
use Rattle.sheet_check.specs.declared.sizes.ShopSizes.{ShopSizes}
use Rattle.sheet_check.specs.declared.sizes.OrderSizes.{OrderSizes}
use Rattle.sheet_check.specs.declared.sizes.TraceSizes.{TraceSizes}

pub record ShopSized (shop : List ℕ) (s : ShopSizes) : Type 0 where
  pub atoms : s.atoms ≡ Shop.atom_count shop
  pub actions : s.actions ≡ Shop.action_count shop
  pub methods : s.methods ≡ Shop.method_count shop
  pub rows : s.rows ≡ Shop.row_count shop

pub record OrderSized (sheet : List ℕ) (s : OrderSizes) : Type 0 where
  pub atoms : s.atoms ≡ Order.atom_count sheet
  pub goals : s.goals ≡ Order.goal_count sheet
  pub rows : s.rows ≡ Order.row_count sheet

pub record TraceSized (trace : List ℕ) (s : TraceSizes) : Type 0 where
  pub steps : s.steps ≡ Trace.step_count trace
