-- The goals of a checked order, read along the table of its ends, as all that waits. Assumes nothing.
use Prim.Native.Nat.{ℕ, ◌<◌, ◌≤◌}
use native.Mathlib.Omega.{arith}
use mathlib.Core.Path.{◌≡◌, refl, sym, ap, ◌∙◌}
use mathlib.Core.List.{List, map, map-map}
use mathlib.Core.Option.{none}
use lib.Dec.{eqb}
use lib.ListN.{length, get_or, length-take, length-map}
use lib.Seq.{get_or-take}
use borrow.Author.Tests.{eqb-true, eqb-false}
use Rattle.hgn.specs.Lists.{split_at_each}
use Rattle.hgn.specs.Rows.{Row, row, has}
use Rattle.hgn.specs.Tag as Tag
use Rattle.hgn.specs.Meaning.{node_of, nodes_of, order_of}
use Rattle.hgn.specs.Network as Network
use Rattle.hgn.specs.Network.{enter, goals_of}
use Rattle.hgn.specs.Questions.{passed}
use Rattle.hgn.specs.Order as Order
use Rattle.hgn.specs.Order.{order_rows}
use Rattle.hgn.proofs.Sheets.Checked.{order_count}
use Rattle.sheet_rows.specs.declared.position.Sheet.TheVariants as Of
use Rattle.sheet_index.specs.Index.{ends, span, span_rows, span_of}
use Rattle.sheet_check.proofs.Lookup.{rows_at}
use Rattle.sheet_index.proofs.Spans.{by_test, ends_length, NodesFrom}
use Rattle.sheet_check.proofs.Orders.{order_fits, order_length}
use Rattle.sheet_index.proofs.Indexed.{order_whole, order_nodes_here, order_nodes_later, order_until, order_columns}
use Rattle.std.specs.Prelude.{None}
use Rattle.network.specs.Entries.{waiting_of}
use Rattle.sheet_index.specs.Tables.{Bounds, Walk, node_at}
use Rattle.replay.specs.OrderTable.{OrderIndexed, first_row}
use Rattle.network.specs.Goals.{list_in, counts_in, Begun}
use Rattle.network.specs.declared.goals.Goals.{Goals}
use Rattle.network.proofs.WaitingGoals.{list_length, list_at, count_at}
use Rattle.network.proofs.PendingCounts.{counted_first}
use Rattle.replay.specs.Running.{FirstGoals}
use Rattle.network.proofs.Entered.{order_enters}
use Rattle.sheet_index.proofs.NodeParts.{walk_nodes}

-- The order's goals, whose rows begin at `first`.
pub record GoalsAt (shop order table : List ℕ) (first : ℕ) : Type 0 where
  pub bs : List Bounds
  pub walk : Walk table (Order.row_count order) first bs
  pub nodes : map (node_at shop order Of.Order) bs ≡ (Order.order order).goals
  pub count : Order.goal_count order ≡ length bs

-- The whole of a checked order's span is its rows.
pub whole_rows : (shop order : List ℕ) → Order.check_order shop order ≡ passed
    → span_rows shop order (span_of Of.Order 0 (Order.row_count order)) ≡ order_rows order
whole_rows shop order e = order_columns shop order e 0 (Order.row_count order) (omega arith) (omega arith) ∙ order_whole shop order e

module _ {shop order table : List ℕ} (ix : OrderIndexed shop order table) where
  abbrev rows : List Row
  rows = order_rows order

  abbrev n : ℕ
  n = Order.row_count order

  long : length rows ≡ n
  long = order_length shop order ix.checked

  fit : length rows ≤ length table
  fit = omega (arith, simp length-take at (ap length ix.ends_are), ends_length rows 0, long)

  end_at : (i : ℕ) → i < length rows → get_or table i 0 ≡ get_or (ends 0 rows) i 0
  end_at i h = sym (get_or-take n table i 0 (omega (arith, long))) ∙ ap (λ (l : List ℕ). get_or l i 0) ix.ends_are

  abbrev part : Bounds → List Row
  part b = span_rows shop order (span_of Of.Order b.from b.to)

  part_is : (from to : ℕ) → from ≤ to → to ≤ length rows → part (record { from = from; to = to }) ≡ span rows from to
  part_is from to f t = order_columns shop order ix.checked from to f (omega (arith, long))

  -- A walk over the nodes from some row on has the order's goals, if those are all its nodes.
  walked : (first : ℕ) → NodesFrom rows first n → split_at_each (has Tag.node) (span rows 0 n) ≡ split_at_each (has Tag.node) (span rows first n) → GoalsAt shop order table first
  unfolding nodes_of order_of Order.order
  walked first w all =
      let v = walk_nodes rows table fit end_at part part_is first n (omega (arith, long)) w in
      let nodes : map (node_at shop order Of.Order) v.list ≡ (Order.order order).goals =
      sym (map-map node_of part v.list) ∙ ap (map node_of) (v.same ∙ sym all ∙ ap (split_at_each (has Tag.node)) (order_whole shop order ix.checked)) in
      record {
        bs = v.list;
        walk = v.walked;
        nodes = nodes;
        count = sym (order_count shop order ix.checked) ∙ ap length (sym nodes) ∙ length-map v.list (node_at shop order Of.Order);
      }

  -- The tag of the first row.
  first_tag : 0 < n → (get_or rows 0 (row 0 0)).tag ≡ get_or order 3 0
  unfolding order_rows
  first_tag h = ap (λ (r : Row). r.tag) (rows_at 3 n order (order_fits shop order ix.checked) 0 h)

  pub goals_read : GoalsAt shop order table (first_row order table)
  goals_read =
      by_test (eqb (get_or order 2 0) 0)
      (λ z.
      let none = eqb-true (get_or order 2 0) 0 z in
      rw z (walked 0 (record { until = order_until shop order ix.checked; node = λ h. absurd (omega arith) }) refl))
      (λ z.
      let some : 0 < n = (let d = eqb-false (get_or order 2 0) 0 z in omega arith) in
      by_test (eqb (get_or order 3 0) 7)
      (λ t. rw (z, t) (walked 0 (order_nodes_here shop order ix.checked (rw (first_tag some) t)) refl))
      (λ t.
      let l = order_nodes_later shop order ix.checked some (rw (first_tag some) t) in
      rw (z, t, end_at 0 (omega (arith, long))) (walked (get_or (ends 0 rows) 0 0) l.1 l.0)))

  -- All that waits, with their counts.
  pub goals_begun : (first : ℕ) (a : GoalsAt shop order table first) (e : ℕ) (g : Goals) → Begun shop order None e a.bs g → FirstGoals shop order g
  unfolding goals_of
  goals_begun first a e g b =
      let list : list_in shop order g ≡ goals_of (Order.order order) =
      ap (map (waiting_of shop order)) b.goals ∙ order_enters shop order e a.bs 0 ∙ ap (enter Network.order none 0) a.nodes in
      record {
        valid = record {
          counted =
              counted_first shop order ix.checked list (counts_in g)
              (λ k h.
              let n = list_length shop order g in
              count_at g k
              ∙ b.counts k (omega (arith, b.count))
              ∙ ap (λ (x : Network.Waiting). length x.after) (sym (list_at shop order g k (omega arith))));
        };
        list = list;
      }
