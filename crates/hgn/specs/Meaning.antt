-- What sheets that pass mean: a domain of actions and methods, an order of goals.
-- Document 01, "The three sheets"; source document 000, "Goal Networks and HGN Methods".
use Rattle.std.specs.Prelude.{ℕ, suc, Bool, true, false, cond, ◌||◌}
use mathlib.Core.List.{List, [], ◌∷◌, map, head_d}
use Rattle.hgn.specs.Lists.{split_at_each, filter, range}
use Rattle.hgn.specs.Rows.{Row, has, values_tagged}
use Rattle.hgn.specs.Tag

pub record Literal : Type 0 where
  pub sign : Bool
  pub atom : ℕ

-- A goal formula in disjunctive normal form: a list of alternatives, each a conjunct of literals. One with no literals is always true.
abbrev pub Formula : Type 0
Formula = List (List Literal)

-- A node of a network, with the numbers of the nodes it comes after: its 11 rows, or by rule (`last_after_all`, `raised` of `Join`).
pub record Node : Type 0 where
  pub after : List ℕ
  pub formula : Formula

-- Document 01's needs are the preconditions; what an action makes true and false are its effects.
pub record Action : Type 0 where
  pub cost : ℕ
  pub needs : List Literal
  pub effects : List Literal

pub record Method : Type 0 where
  pub needs : List Literal
  pub nodes : List Node

pub record Domain : Type 0 where
  pub actions : List Action
  pub methods : List Method

-- The evening's order: the atoms true at the start, and its goals.
pub record Order : Type 0 where
  pub start : List ℕ
  pub goals : List Node

-- The literals of the rows with one tag for true and one for false.
unfoldable pub literals : ℕ → ℕ → List Row → List Literal
literals t f [] = []
literals t f (r ∷ rs) =
    cond (has t r) (record { sign = true; atom = r.value } ∷ literals t f rs)
    (cond (has f r) (record { sign = false; atom = r.value } ∷ literals t f rs)
    (literals t f rs))

-- A node's rows: its 7, its 11 rows, then its alternatives, each from its 8 on.
unfoldable pub node_of : List Row → Node
unfolding split_at_each
node_of rows = record {
  after = values_tagged Tag.after rows;
  formula = map (literals Tag.wanted_true Tag.wanted_false) (split_at_each (has Tag.alternative) rows);
}

unfoldable pub nodes_of : List Row → List Node
unfolding split_at_each
nodes_of rows = map node_of (split_at_each (has Tag.node) rows)

-- The value of the first row: of an action, its cost.
unfoldable pub first_value : List Row → ℕ
first_value [] = 0
first_value (r ∷ rs) = r.value

unfoldable pub action_of : List Row → Action
action_of rows = record {
  cost = first_value rows;
  needs = literals Tag.needs_true Tag.needs_false rows;
  effects = literals Tag.makes_true Tag.makes_false rows;
}

unfoldable pub method_of : List Row → Method
method_of rows = record {
  needs = literals Tag.needs_true Tag.needs_false rows;
  nodes = nodes_of rows;
}

-- The row begins an action or a method.
abbrev pub begins_operator : Row → Bool
begins_operator r = has Tag.action r || has Tag.method r

-- The first of these rows has the tag, so they are those of an action or of a method.
unfoldable pub starts_with : ℕ → List Row → Bool
starts_with t [] = false
starts_with t (r ∷ rs) = has t r

unfoldable pub domain_of : List Row → Domain
domain_of rows = record {
  actions = map action_of (filter (starts_with Tag.action) (split_at_each begins_operator rows));
  methods = map method_of (filter (starts_with Tag.method) (split_at_each begins_operator rows));
}

unfoldable pub order_of : List Row → Order
order_of rows = record { start = values_tagged Tag.true_at_start rows; goals = nodes_of rows }

abbrev pub no_node : Node
no_node = record { after = []; formula = [] }

-- The last listed node.
unfoldable pub last_of : List Node → Node
last_of [] = no_node
last_of (n ∷ []) = n
last_of (n ∷ m ∷ ns) = last_of (m ∷ ns)

-- goal(m) of 000: the one alternative of the last listed node.
unfoldable pub goal_of : Method → List Literal
unfolding head_d
goal_of m = head_d (last_of m.nodes).formula []

-- The last listed node comes after all the others by rule; `i` nodes stand before these.
unfoldable pub last_after_all : ℕ → List Node → List Node
last_after_all i [] = []
last_after_all i (n ∷ []) = record { after = range 0 i; formula = n.formula } ∷ []
last_after_all i (n ∷ m ∷ ns) = n ∷ last_after_all (suc i) (m ∷ ns)

-- network(m) of 000.
unfoldable pub network_of : Method → List Node
network_of m = last_after_all 0 m.nodes
