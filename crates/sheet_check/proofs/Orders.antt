-- The sizes and the rows of an order sheet that passes. Assumes nothing.
use Prim.Native.Nat.{ℕ, ◌+◌, ◌≤◌}
use native.Mathlib.Omega.{arith}
use mathlib.Core.Path.{◌≡◌}
use mathlib.Core.List.{List}
use lib.ListN.{length}
use Rattle.hgn.specs.Rows.{most_rows}
use Rattle.hgn.specs.Questions.{passed}
use Rattle.hgn.specs.Order.{goal_count, row_count, most_goals, size_words, order_rows, check_order}
use Rattle.hgn.proofs.Sheets.Passed.{order_passed}
use Rattle.hgn.proofs.Sheets.Written as Written
use Rattle.hgn.proofs.Sheets.Written.{order_rules}
use Rattle.sheet_check.proofs.Lookup.{rows_length}

module _ (shop sheet : List ℕ) (e : check_order shop sheet ≡ passed) where
  pub order_fits : size_words + (row_count sheet + row_count sheet) ≤ length sheet
  order_fits = omega (arith, (order_passed shop sheet e).size)

  -- No sheet has more than 4,000 rows, and no order more than 64 goals.
  pub order_few : row_count sheet ≤ most_rows
  order_few = omega (arith, (order_rules shop sheet e).few_rows, Written.order_length shop sheet e)

  pub few_goals : goal_count sheet ≤ most_goals
  few_goals = omega (arith, (order_rules shop sheet e).few_goals, (order_passed shop sheet e).goal_count_law)

  pub order_length : length (order_rows sheet) ≡ row_count sheet
  unfolding order_rows
  order_length = rows_length size_words (row_count sheet) sheet order_fits
