-- The rows and goals that come out of joining two orders that pass. Assumes nothing.
use Prim.Native.Nat.{ℕ, ◌+◌, ◌-◌, ◌*◌, ◌≤◌}
use native.Mathlib.Omega.{arith}
use native.Mathlib.Nat.{mul-le-mul}
use mathlib.Core.Path.{◌≡◌, sym, ap, ◌∙◌}
use mathlib.Core.List.{List}
use lib.ListN.{length, length-drop}
use Rattle.hgn.specs.Questions.{passed}
use Rattle.hgn.specs.Order.{goal_count, row_count, most_goals, order_rows, check_order}
use Rattle.hgn.specs.JoinSheet.{joined_rows}
use Rattle.hgn.proofs.Join.Rows.{joined_count}
use Rattle.sheet_join.specs.Joinings.{FirstGoal}
use Rattle.sheet_check.proofs.Orders.{few_goals, order_length}

module _ (shop first second : List ℕ) (one : check_order shop first ≡ passed) (two : check_order shop second ≡ passed) where
  -- One row for each goal of the first in each goal of the second.
  pub few_new : goal_count second * goal_count first ≤ most_goals * most_goals
  few_new = mul-le-mul (few_goals shop second two) (few_goals shop first one)

  module _ (from : ℕ) (h : FirstGoal (order_rows second) from) where
    pub inside : from ≤ row_count second
    inside = omega (arith, h.inside, order_length shop second two)

    pub rows_come : row_count first + (row_count second - from) + goal_count second * goal_count first ≡ length (joined_rows first second)
    rows_come =
        let kept = ap length (sym h.from) ∙ length-drop from (order_rows second) in
        omega (arith, joined_count shop first second one two, kept, order_length shop second two)
