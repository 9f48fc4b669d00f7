-- What the table of a checked sheet says: where its actions and methods stand, and the nodes that it leads along.
-- Document 01, "The three sheets".
use Rattle.std.specs.Prelude.{ℕ, suc, ◌+◌, ◌<◌, ◌≤◌, ◌≡◌, ◌≢◌, List, [], ◌∷◌, ◌++◌, map, length, take, get_or}
use Rattle.hgn.specs.Questions.{passed}
use Rattle.hgn.specs.Rows.{most_rows}
use Rattle.hgn.specs.Tag as Tag
use Rattle.hgn.specs.Meaning.{Node, literals, node_of, goal_of}
use Rattle.hgn.specs.Run.{action_at, method_at}
use Rattle.hgn.specs.Shop.{most_nodes, domain, row_count, action_count, method_count, shop_rows}
use Rattle.hgn.specs.Order.{check_order}
use Rattle.sheet_rows.specs.declared.position.Sheet.{Sheet}
use Rattle.sheet_rows.specs.declared.position.Sheet.TheVariants as Of
use Rattle.sheet_index.specs.Index.{starts, ends, starts_in, span_of, span_rows, rows_in}
use Rattle.sheet_index.specs.declared.rows.Rows.{Rows}
use Rattle.sheet_index.specs.declared.operators.Nodes.{Nodes}
use Rattle.sheet_index.specs.declared.operators.MethodRows.{MethodRows}

-- The sheets passed, and the table says where the shop's parts end and its actions and methods start.
pub record Indexed (shop order table : List ℕ) : Type 0 where
  pub checked : check_order shop order ≡ passed
  pub ends_are : take (row_count shop) table ≡ ends 0 (shop_rows shop)
  pub starts_are : take (suc (action_count shop + method_count shop)) (starts_in table) ≡ starts 0 (shop_rows shop) ++ (row_count shop ∷ [])

-- These are the rows `from` up to `to` of the shop sheet, whatever the order.
pub record HasRows (shop : List ℕ) (from to : ℕ) (rs : Rows) : Type 0 where
  pub rows_are : (order : List ℕ) → rows_in rs ≡ span_rows shop order (span_of Of.Shop from to)

-- They have the needs and the effects of action `k`.
pub record ActionIn (shop : List ℕ) (k : ℕ) (rs : Rows) : Type 0 where
  pub needs : literals Tag.needs_true Tag.needs_false (rows_in rs) ≡ (action_at (domain shop) k).needs
  pub effects : literals Tag.makes_true Tag.makes_false (rows_in rs) ≡ (action_at (domain shop) k).effects

-- The rows of a node.
pub record Bounds : Type 0 where
  pub from : ℕ
  pub to : ℕ

-- From row `n` up to row `e` the table leads along these nodes.
pub data Walk (table : List ℕ) (e : ℕ) : ℕ → List Bounds → Type 0 where
  stop : Walk table e e []
  next : {n to : ℕ} {bs : List Bounds} → n < to → to ≤ e → n < length table → get_or table n 0 ≡ to → Walk table e to bs
      → Walk table e n (record { from = n; to = to } ∷ bs)

-- The node whose rows these bounds are.
abbrev pub node_at : List ℕ → List ℕ → Sheet → Bounds → Node
node_at shop order sheet b = node_of (span_rows shop order (span_of sheet b.from b.to))

-- How many nodes, and where the last starts.
pub record NodesCounted (e : ℕ) (bs : List Bounds) (r : Nodes) : Type 0 where
  pub number : r.count ≡ length bs
  pub last_is : length bs ≢ 0 → (init : List Bounds) × (bs ≡ init ++ (record { from = r.last.0; to = e } ∷ []))

-- Method `m` stands in these rows: its needs before its nodes, and its goal in the last of them.
pub record MethodAt (shop order table : List ℕ) (m : ℕ) (r : MethodRows) : Type 0 where
  pub needs : literals Tag.needs_true Tag.needs_false (span_rows shop order (span_of Of.Shop r.from.0 r.first.0)) ≡ (method_at (domain shop) m).needs
  pub bs : List Bounds
  pub walk : Walk table r.end.0 r.first.0 bs
  pub nodes : map (node_at shop order Of.Shop) bs ≡ (method_at (domain shop) m).nodes
  pub inside : r.end.0 ≤ most_rows
  pub some : 1 ≤ length bs
  pub few : length bs ≤ most_nodes
  pub goal : (init : List Bounds) (last : ℕ) → bs ≡ init ++ (record { from = last; to = r.end.0 } ∷ [])
      → goal_of (method_at (domain shop) m) ≡ literals Tag.wanted_true Tag.wanted_false (span_rows shop order (span_of Of.Shop last r.end.0))
