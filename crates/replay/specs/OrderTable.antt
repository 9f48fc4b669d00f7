-- Where the parts of an order sheet end, for the first record of a run. Document 01, "How a derivation runs".
use Rattle.std.specs.Prelude.{ℕ, ◌≡◌, List, cond, eqb, take, get_or}
use Rattle.hgn.specs.Questions.{passed}
use Rattle.hgn.specs.Tag as Tag
use Rattle.hgn.specs.Order.{size_words, row_count, order_rows, check_order}
use Rattle.sheet_index.specs.Index.{ends}

-- The sheets passed, and this table says where the order's parts end.
pub record OrderIndexed (shop order endTable : List ℕ) : Type 0 where
  pub checked : check_order shop order ≡ passed
  pub ends_are : take (row_count order) endTable ≡ ends 0 (order_rows order)

-- The row at which the order's first node begins, or its end. If row 0 is no node, it belongs to no part, and the table says where the next
-- part begins.
abbrev pub first_row : List ℕ → List ℕ → ℕ
first_row order table = cond (eqb (row_count order) 0) 0 (cond (eqb (get_or order size_words 0) Tag.node) 0 (get_or table 0 0))
