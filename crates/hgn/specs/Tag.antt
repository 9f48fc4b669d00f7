-- The twelve tags by name, which tag may follow which, the ranges of values, and the groups in which values rise.
-- Document 01, "The three sheets".
use Rattle.std.specs.Prelude.{ℕ, suc, Bool, true, false, cond, ◌||◌, List, [], ◌∷◌, eqb, leb, ltb}
use Rattle.hgn.specs.Lists.{elem}

abbrev pub action : ℕ
action = 1

abbrev pub method : ℕ
method = 2

abbrev pub needs_true : ℕ
needs_true = 3

abbrev pub needs_false : ℕ
needs_false = 4

abbrev pub makes_true : ℕ
makes_true = 5

abbrev pub makes_false : ℕ
makes_false = 6

abbrev pub node : ℕ
node = 7

abbrev pub alternative : ℕ
alternative = 8

abbrev pub wanted_true : ℕ
wanted_true = 9

abbrev pub wanted_false : ℕ
wanted_false = 10

abbrev pub after : ℕ
after = 11

abbrev pub true_at_start : ℕ
true_at_start = 12

-- The largest cost of an action.
abbrev pub most_cost : ℕ
most_cost = 65535

-- Where a sheet stands between two rows.
pub data Context : Type 0 where
  at_start : Context  -- at the start; in an order sheet, after 12 too
  in_action : Context  -- after 1, or 3 or 4 of an action
  in_effects : Context  -- after 5 or 6
  in_method : Context  -- after 2, or 3 or 4 of a method
  in_node : Context  -- after 7 or 11
  in_alternative : Context  -- after 8, 9 or 10

-- The tags that may follow in a shop sheet.
unfoldable pub shop_follow : Context → List ℕ
shop_follow at_start = action ∷ method ∷ []
shop_follow in_action = needs_true ∷ needs_false ∷ makes_true ∷ makes_false ∷ action ∷ method ∷ []
shop_follow in_effects = makes_true ∷ makes_false ∷ action ∷ method ∷ []
shop_follow in_method = needs_true ∷ needs_false ∷ node ∷ []
shop_follow in_node = after ∷ alternative ∷ []
shop_follow in_alternative = wanted_true ∷ wanted_false ∷ alternative ∷ node ∷ method ∷ []

-- The tags that may follow in an order sheet, which never stands in an action or in a method's head.
unfoldable pub order_follow : Context → List ℕ
order_follow at_start = true_at_start ∷ node ∷ []
order_follow in_action = []
order_follow in_effects = []
order_follow in_method = []
order_follow in_node = after ∷ alternative ∷ []
order_follow in_alternative = wanted_true ∷ wanted_false ∷ alternative ∷ node ∷ []

-- A sheet may not end after 2, after 3 or 4 of a method, or after 7 or 11.
abbrev pub may_end : Context → Bool
may_end at_start = true
may_end in_action = true
may_end in_effects = true
may_end in_method = false
may_end in_node = false
may_end in_alternative = true

-- Where the sheet stands after a row: 3 and 4 stay in their action or method, 12 at the start.
unfoldable pub context_after : Context → ℕ → Context
context_after c t =
    cond (eqb t action) in_action
    (cond (eqb t method) in_method
    (cond (elem t (makes_true ∷ makes_false ∷ [])) in_effects
    (cond (elem t (node ∷ after ∷ [])) in_node
    (cond (elem t (alternative ∷ wanted_true ∷ wanted_false ∷ [])) in_alternative
    c))))

-- "Groups: the 3 and 4 rows of one action or method; its 5 and 6 rows; the 9 and 10 rows of one alternative; the 11 rows of one
-- node; the 12 rows. Values rise strictly within a group, so no atom stands twice or with both signs."
-- Each begins with 0 as its least value: the 12 rows by `opening`; the 3 and 4 rows, the 11 rows and the 9 and 10 rows by `advance`
-- over the 1 or 2, the 7 and the 8 before them; the 5 and 6 rows by `least_here`.

-- What a sheet's earlier rows say about the next row.
pub record Position : Type 0 where
  pub context : Context
  pub least : ℕ  -- the least value that goes on in the group of the last row
  pub nodes : ℕ  -- the nodes so far in this network, the one that an 11 row stands in among them: its number is `nodes` less 1

abbrev pub opening : Position
opening = record { context = at_start; least = 0; nodes = 0 }

-- The rows that begin an action, a method, a node or an alternative: they stand in no group.
unfoldable pub begins : ℕ → Bool
begins t = elem t (action ∷ method ∷ node ∷ alternative ∷ [])

-- The least value for this tag: the first 5 or 6 of an action does not go on in the group of the 3 and 4 rows before it.
unfoldable pub least_here : Position → ℕ → ℕ
least_here p t = elim p.context [
  | in_action ↦ cond (elem t (makes_true ∷ makes_false ∷ [])) 0 p.least
  | at_start ↦ p.least
  | in_effects ↦ p.least
  | in_method ↦ p.least
  | in_node ↦ p.least
  | in_alternative ↦ p.least
]

-- The position after a row: no group yet after a row that `begins`, and else a group that goes on above this row's value.
-- A network's nodes are counted from its method's 2 on, or from the start of an order sheet.
unfoldable pub advance : Position → ℕ → ℕ → Position
advance p t v = record {
  context = context_after p.context t;
  least = cond (begins t) 0 (suc v);
  nodes = cond (eqb t method) 0 (cond (eqb t node) (suc p.nodes) p.nodes);
}

-- The value in range: of 1 a cost; of 2, 7 and 8 it is 0; of 11 a node's number below that of the node it stands in;
-- of every other tag an atom, below `F`.
unfoldable pub in_range : ℕ → Position → ℕ → ℕ → Bool
in_range F p t v =
    cond (eqb t action) (leb v most_cost)
    (cond (begins t) (eqb v 0)
    (cond (eqb t after) (ltb (suc v) p.nodes)
    (ltb v F)))

-- The value above the one before it in its group.
unfoldable pub rises : Position → ℕ → ℕ → Bool
rises p t v = begins t || leb (least_here p t) v
