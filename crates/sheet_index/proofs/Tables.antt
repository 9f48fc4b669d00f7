-- What the table of a checked shop sheet says: where its parts end, where its actions and methods start, and their rows. Assumes nothing.
use Prim.Native.Nat.{ℕ, suc, ◌+◌, ◌<◌, ◌≤◌}
use native.Mathlib.Omega.{arith}
use mathlib.Core.Path.{◌≡◌, sym, ap, ◌∙◌}
use mathlib.Core.List.{List, []}
use lib.ListN.{length, get_or, length-take, length-drop, length-append}
use lib.Seq.{get_or-take}
use Rattle.hgn.specs.Questions.{passed}
use Rattle.hgn.specs.Rows.{most_rows}
use Rattle.hgn.specs.Shop.{row_count, action_count, method_count, shop_rows, check_shop}
use Rattle.hgn.proofs.Sheets.Checked.{shop_of_order}
use Rattle.sheet_rows.specs.declared.position.Sheet.TheVariants as Of
use Rattle.sheet_index.specs.Index.{ends, span, starts_in, Indexable, layout_of, span_of, span_rows}
use Rattle.sheet_index.specs.Tables.{Indexed}
use Rattle.sheet_index.proofs.Spans.{bounds, read_start, ends_length}
use Rattle.sheet_index.proofs.Indexed.{shop_length, operators_count, shop_columns, shop_indexable}

module _ {shop order table : List ℕ} (ix : Indexed shop order table) where
  pub shop_passes : check_shop shop ≡ passed
  shop_passes = shop_of_order shop order ix.checked

  pub ends_fit : length (shop_rows shop) ≤ length table
  ends_fit = omega (arith, simp length-take at (ap length ix.ends_are), ends_length (shop_rows shop) 0, shop_length shop shop_passes)

  pub starts_fit : action_count shop + method_count shop < length (starts_in table)
  starts_fit =
      omega (arith, simp (length-take, length-append) at (ap length ix.starts_are), operators_count shop shop_passes)

  pub end_at : (i : ℕ) → i < length (shop_rows shop) → get_or table i 0 ≡ get_or (ends 0 (shop_rows shop)) i 0
  end_at i h = sym (get_or-take (row_count shop) table i 0 (omega (arith, shop_length shop shop_passes))) ∙ ap (λ (l : List ℕ). get_or l i 0) ix.ends_are

  -- The start of action or method `b`, counted together; behind the last, the end of the sheet.
  pub start_at : (b : ℕ) → b ≤ action_count shop + method_count shop → get_or (starts_in table) b 0 ≡ get_or (bounds (shop_rows shop)) b 0
  start_at b h =
      sym (get_or-take (suc (action_count shop + method_count shop)) (starts_in table) b 0 (omega arith))
      ∙ ap (λ (l : List ℕ). get_or l b 0) ix.starts_are
      ∙ read_start (shop_rows shop) (row_count shop) [] b (sym (shop_length shop shop_passes)) (omega (arith, operators_count shop shop_passes))

  pub rows_of : (from to : ℕ) → from ≤ to → to ≤ length (shop_rows shop)
      → span_rows shop order (span_of Of.Shop from to) ≡ span (shop_rows shop) from to
  rows_of from to f t = shop_columns shop shop_passes order from to f (omega (arith, shop_length shop shop_passes))

  pub indexable : Indexable shop (layout_of Of.Shop shop) table (action_count shop + method_count shop)
  indexable = shop_indexable shop shop_passes (omega (arith, starts_fit, length-drop most_rows table))
