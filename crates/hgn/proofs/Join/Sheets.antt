-- The joined sheet passes the order check and means the join, where it has few enough rows and goals. Assumes nothing.
use Prim.Native.Nat.{ℕ, ◌+◌, ◌*◌, ◌≤◌}
use native.Mathlib.Omega.{arith}
use mathlib.Core.Path.{◌≡◌, ap, ◌∙◌}
use mathlib.Core.List.{List}
use lib.ListN.{length}
use Rattle.hgn.specs.Rows.{most_rows}
use Rattle.hgn.specs.Network.{most_waiting}
use Rattle.hgn.specs.Join.{join}
use Rattle.hgn.specs.Questions.{passed}
use Rattle.hgn.specs.Shop as Shop
use Rattle.hgn.specs.Order.{order, row_count, check_order}
use Rattle.hgn.specs.JoinSheet.{joined_rows, joined_words}
use Rattle.hgn.proofs.Sheets.Passed.{shop_of_order}
use Rattle.hgn.proofs.Sheets.Rules.{network_join}
use Rattle.hgn.proofs.Sheets.Written.{order_rules, order_length, words_order, words_pass_order}
use Rattle.hgn.proofs.Join.Rows.{join_length, joined_goals, joined_rows_law, joined_words_law}

module _ (shop first second : List ℕ) (one : check_order shop first ≡ passed) (two : check_order shop second ≡ passed) where
  pub joined_means : order (joined_words first second) ≡ join (order first) (order second)
  joined_means = ap order (joined_words_law shop first second one two) ∙ words_order (Shop.atom_count shop) _

  pub joined_passes : length (order first).goals + length (order second).goals ≤ most_waiting
      → length (joined_rows first second) ≤ most_rows → check_order shop (joined_words first second) ≡ passed
  unfolding join
  joined_passes goals few =
      let a = order first in
      let b = order second in
      rw (joined_words_law shop first second one two)
      (words_pass_order shop (join a b) (shop_of_order shop first one)
      record {
        few_goals = omega (arith, joined_goals a b);
        few_rows = omega (arith, ap length (joined_rows_law shop first second one two));
        start = (order_rules shop first one).start;
        goals = network_join a b (order_rules shop first one).goals (order_rules shop second two).goals;
      })

  -- Where the rows of both, and one for each goal of the first in each goal of the second, are few enough, those that come out are.
  pub surely_few : row_count first + row_count second + length (order second).goals * length (order first).goals ≤ most_rows
      → length (joined_rows first second) ≤ most_rows
  surely_few few =
      omega (
        arith,
        ap length (joined_rows_law shop first second one two),
        join_length (order first) (order second),
        order_length shop first one,
        order_length shop second two,
      )
