-- The three sheets written out from what they mean, and their rules said of the meaning: a second reading of document 01, "The three
-- sheets", beside the checks. A sheet passes its check exactly when it is the words of a meaning that keeps these rules.
-- Limits and tags stand here as the document's numbers, so that a wrong constant of the checks makes the statements below false.
use Rattle.std.specs.Prelude.{ℕ, ◌≤◌, ◌<◌, ◌≡◌, cond, ◌↔◌, length}
use mathlib.Core.List.{List, [], ◌∷◌, ◌++◌, map, flat_map, Memᴰ}
use Rattle.hgn.specs.Lists.{split_at_each, At}
use Rattle.hgn.specs.Rows.{Row, row, has, row_words}
use Rattle.hgn.specs.Meaning.{Literal, Node, Action, Method, Domain, Order, begins_operator}
use Rattle.hgn.specs.Run.{Step}
use Rattle.hgn.specs.Questions.{passed}
use Rattle.hgn.specs.Shop as Shop
use Rattle.hgn.specs.Shop.{domain, check_shop}
use Rattle.hgn.specs.Order.{order, check_order}
use Rattle.hgn.specs.Trace.{steps_of, trace_words, check_trace}

-- Rows.

-- A conjunct: a row for each literal, with one tag for true and one for false.
unfoldable pub conjunct_rows : ℕ → ℕ → List Literal → List Row
conjunct_rows t f c = map (λ l. row (cond l.sign t f) l.atom) c

unfoldable pub alternative_rows : List Literal → List Row
alternative_rows c = row 8 0 ∷ conjunct_rows 9 10 c

unfoldable pub node_rows : Node → List Row
unfolding flat_map
node_rows n = row 7 0 ∷ map (row 11) n.after ++ flat_map alternative_rows n.formula

unfoldable pub action_rows : Action → List Row
action_rows a = row 1 a.cost ∷ conjunct_rows 3 4 a.needs ++ conjunct_rows 5 6 a.effects

unfoldable pub method_rows : Method → List Row
unfolding flat_map
method_rows m = row 2 0 ∷ conjunct_rows 3 4 m.needs ++ flat_map node_rows m.nodes

unfoldable pub domain_rows : Domain → List Row
unfolding flat_map
domain_rows d = flat_map action_rows d.actions ++ flat_map method_rows d.methods

unfoldable pub order_rows : Order → List Row
unfolding flat_map
order_rows o = map (row 12) o.start ++ flat_map node_rows o.goals

-- Words: "sizes first, then two parallel arrays" (`row_words` of `Rows`; `trace_words` of `Trace` is the trace's).

unfoldable pub shop_words : ℕ → Domain → List ℕ
shop_words F d = F ∷ length d.actions ∷ length d.methods ∷ row_words (domain_rows d)

unfoldable pub order_words : ℕ → Order → List ℕ
order_words F o = F ∷ length o.goals ∷ row_words (order_rows o)

-- Rules.

-- The numbers rise strictly and are below `top`.
pub data RisingBelow (top : ℕ) : List ℕ → Type 0 where
  none : RisingBelow top []
  one : {n : ℕ} → n < top → RisingBelow top (n ∷ [])
  more : {m n : ℕ} {ns : List ℕ} → m < n → RisingBelow top (n ∷ ns) → RisingBelow top (m ∷ n ∷ ns)

-- A conjunct's atoms are below `F` and rise, so none stands twice or with both signs.
abbrev pub ConjunctRules : ℕ → List Literal → Type 0
ConjunctRules F c = RisingBelow F (map (λ l. l.atom) c)

-- Node `i` of a network.
pub record NodeRules (F i : ℕ) (n : Node) : Type 0 where
  pub afters : RisingBelow i n.after
  pub some_alternative : 1 ≤ length n.formula
  pub alternatives : (c : List Literal) → Memᴰ c n.formula → ConjunctRules F c

abbrev pub NetworkRules : ℕ → List Node → Type 0
NetworkRules F ns = (i : ℕ) (n : Node) → At ns i n → NodeRules F i n

pub record ActionRules (F : ℕ) (a : Action) : Type 0 where
  pub cost : a.cost ≤ 65535
  pub needs : ConjunctRules F a.needs
  pub effects : ConjunctRules F a.effects

-- "A method's nodes number 1 to 63. Its last listed node has exactly one alternative, which is the method's goal, and no 11 rows".
pub record MethodRules (F : ℕ) (m : Method) : Type 0 where
  pub needs : ConjunctRules F m.needs
  pub nodes : NetworkRules F m.nodes
  pub some_node : 1 ≤ length m.nodes
  pub few_nodes : length m.nodes ≤ 63
  pub one_goal : (init : List Node) (last : Node) → m.nodes ≡ init ++ (last ∷ []) → length last.formula ≡ 1
  pub no_afters : (init : List Node) (last : Node) → m.nodes ≡ init ++ (last ∷ []) → last.after ≡ []

pub record DomainRules (F : ℕ) (d : Domain) : Type 0 where
  pub some_atom : 1 ≤ F
  pub few_atoms : F ≤ 256
  pub few_actions : length d.actions ≤ 255
  pub few_methods : length d.methods ≤ 255
  pub few_rows : length (domain_rows d) ≤ 4000
  pub actions : (a : Action) → Memᴰ a d.actions → ActionRules F a
  pub methods : (m : Method) → Memᴰ m d.methods → MethodRules F m

pub record OrderRules (F : ℕ) (o : Order) : Type 0 where
  pub few_goals : length o.goals ≤ 64
  pub few_rows : length (order_rows o) ≤ 4000
  pub start : RisingBelow F o.start
  pub goals : NetworkRules F o.goals

-- Statements.

-- A shop sheet passes exactly when it is the words of a domain that keeps the rules. The words of a domain mean that domain.
pub record ShopIsWritten (shop : List ℕ) : Type 0 where
  pub passed_iff : (check_shop shop ≡ passed) ↔ ((F : ℕ) × (d : Domain) × DomainRules F d × (shop ≡ shop_words F d))
  pub means : (F : ℕ) (d : Domain) → shop ≡ shop_words F d → (F ≡ Shop.atom_count shop) × (d ≡ domain shop)

-- An order sheet passes exactly when it is the words of an order that keeps the rules, with the F of its shop sheet; they mean that order.
pub record OrderIsWritten (shop sheet : List ℕ) : Type 0 where
  pub passed_iff : (check_order shop sheet ≡ passed)
      ↔ ((o : Order) × OrderRules (Shop.atom_count shop) o × (sheet ≡ order_words (Shop.atom_count shop) o))
  pub means : (F : ℕ) (o : Order) → sheet ≡ order_words F o → o ≡ order sheet

-- A trace passes exactly when it is the words of at most 4,096 steps; they mean those steps.
pub record TraceIsWritten (shop sheet trace : List ℕ) : Type 0 where
  pub passed_iff : (check_trace shop sheet trace ≡ passed) ↔ ((xs : List Step) × (length xs ≤ 4096) × (trace ≡ trace_words xs))
  pub means : (xs : List Step) → trace ≡ trace_words xs → xs ≡ steps_of trace

-- A part of a sheet is an action, a method, a node or an alternative as it is written: its first row and the rows up to the next such part.
pub record PartsAreWritten : Type 0 where
  pub of_domain : (d : Domain) → split_at_each begins_operator (domain_rows d) ≡ map action_rows d.actions ++ map method_rows d.methods
  pub of_method : (m : Method) → split_at_each (has 7) (method_rows m) ≡ map node_rows m.nodes
  pub of_order_law : (o : Order) → split_at_each (has 7) (order_rows o) ≡ map node_rows o.goals
  pub of_node : (n : Node) → split_at_each (has 8) (node_rows n) ≡ map alternative_rows n.formula

pub record SheetsAreWritten : Type 0 where
  pub shops : (shop : List ℕ) → ShopIsWritten shop
  pub orders : (shop sheet : List ℕ) → check_shop shop ≡ passed → OrderIsWritten shop sheet
  pub split_at_each : PartsAreWritten
  pub traces : (shop sheet trace : List ℕ) → check_order shop sheet ≡ passed → TraceIsWritten shop sheet trace
