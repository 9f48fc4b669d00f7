-- How a network's nodes enter the waiting list.
-- Document 01, "How a derivation runs".
use Rattle.std.specs.Prelude.{ℕ, suc, ◌&&◌, List, [], ◌∷◌, eqb, length, is_some, Option, Some, None}
use Rattle.sheet_rows.specs.declared.position.Sheet.{Sheet}
use Rattle.sheet_rows.specs.declared.position.Sheet.TheVariants as Of
use Rattle.sheet_index.specs.Index.{span_of}
use Rattle.sheet_index.specs.Tables.{Bounds}
use Rattle.network.specs.Entries.{waiting_of}
use Rattle.network.specs.declared.waiting.Used.{Used}
use Rattle.network.specs.declared.waiting.Entry.{Entry}
use Rattle.network.specs.declared.waiting.Waiting.{Waiting}

-- A goal of the order stands in the order sheet, any other in the shop sheet.
abbrev pub sheet_of : Option Used → Sheet
sheet_of (Some u) = Of.Shop
sheet_of None = Of.Order

-- A node as goal number `j` of its network. In a method's network the node that ends where the part ends is the last, which comes after all
-- the others.
abbrev pub entry_of : Option Used → ℕ → ℕ → Bounds → Entry
entry_of source e j b = record {
  rows = span_of (sheet_of source) b.from b.to;
  number = j;
  source = source;
  last = is_some source && eqb b.to e;
}

-- Nodes as goals, from number `j` on.
unfoldable pub entries_from : Option Used → ℕ → ℕ → List Bounds → List Entry
entries_from source e j [] = []
entries_from source e j (b ∷ bs) = entry_of source e j b ∷ entries_from source e (suc j) bs

-- The nodes of a network as goals.
abbrev pub node_entries : Option Used → ℕ → List Bounds → List Entry
node_entries source e bs = entries_from source e 0 bs

-- A goal that enters counts the nodes that it is listed after.
abbrev pub entering : List ℕ → List ℕ → Entry → Waiting
entering shop order e = record { goal = e; pending = length (waiting_of shop order e).after }
