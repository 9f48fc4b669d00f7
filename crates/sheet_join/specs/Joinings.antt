-- What the functions of the join share: sheets that pass, and what comes out of joining them. Document 01, "How a derivation runs", from "The
-- join of two orders" on.
use Rattle.std.specs.Prelude.{ℕ, ◌+◌, ◌<◌, ◌≤◌, ◌≡◌, length, drop}
use mathlib.Core.List.{List, flat_map}
use Rattle.hgn.specs.Lists.{drop_until}
use Rattle.hgn.specs.Tag as Tag
use Rattle.hgn.specs.Rows.{Row, has, most_rows}
use Rattle.hgn.specs.Questions.{passed}
use Rattle.hgn.specs.Order.{atom_count, goal_count, row_count, most_goals, order_rows, size_words, check_order}
use Rattle.hgn.specs.JoinSheet.{raised_row, joined_rows}
use Rattle.sheet_check.specs.declared.rows.Layout.{Layout}
use Rattle.sheet_join.specs.declared.joining.Joining.{Joining}

-- The words are enough for the sizes and the rows of a sheet that is laid out so.
pub record Holds (l : Layout) (words : List ℕ) : Type 0 where
  pub few_rows : l.rows ≤ most_rows
  pub enough : l.sizes + (l.rows + l.rows) ≤ length words

-- Of these rows of an order, the goals begin at row `i`.
pub record FirstGoal (rows : List Row) (i : ℕ) : Type 0 where
  pub inside : i ≤ length rows
  pub from : drop i rows ≡ drop_until (has Tag.node) rows

-- Both orders pass with one shop sheet.
pub record PassWithOne (first second : List ℕ) : Type 0 where
  pub shop : List ℕ
  pub first_passes : check_order shop first ≡ passed
  pub second_passes : check_order shop second ≡ passed

-- This is what comes out of joining these orders.
pub record IsJoining (first second : List ℕ) (j : Joining) : Type 0 where
  pub atoms : j.atoms ≡ atom_count first
  pub before : j.before ≡ goal_count first
  pub goals : j.goals ≡ goal_count first + goal_count second
  pub from : FirstGoal (order_rows second) j.from
  pub rows : j.rows ≡ length (joined_rows first second)

-- What a row of the second order becomes can be put into this room from row `at` on: the rows fit, and a raised 11 row names one of few goals.
pub record RowFits (into : Layout) (at before : ℕ) (r : Row) (room : List ℕ) : Type 0 where
  pub room_for : Holds into room
  pub fits : at + length (raised_row before r) ≤ into.rows
  pub few_before : before ≤ most_goals
  pub names_goal : r.tag ≡ Tag.after → r.value < most_goals

-- The second order's goals can be put into this room from row `at` on.
pub record SecondFits (into : Layout) (second : List ℕ) (at : ℕ) (j : Joining) (room : List ℕ) : Type 0 where
  pub room_for : Holds into room
  pub passes : (shop : List ℕ) × (check_order shop second ≡ passed)
  pub inside : j.from ≤ row_count second
  pub few_before : j.before ≤ most_goals
  pub fits : at + length (flat_map (raised_row j.before) (drop j.from (order_rows second))) ≤ into.rows

-- The joined sheet can be written into this room.
pub record Writable (first second room : List ℕ) (j : Joining) : Type 0 where
  pub pass : PassWithOne first second
  pub comes : IsJoining first second j
  pub few_rows : j.rows ≤ most_rows
  pub room_enough : size_words + (j.rows + j.rows) ≤ length room
