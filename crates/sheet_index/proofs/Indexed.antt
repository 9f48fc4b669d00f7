-- What the index of a sheet that passed its check gives: how many actions and methods start, in which spans they stand, and what
-- may be handed to `fill`. Assumes nothing.
use Prim.Native.Nat.{ℕ, suc, ◌+◌, ◌<◌, ◌≤◌}
use native.Mathlib.Omega.{arith}
use mathlib.Core.Path.{◌≡◌, refl, sym, ap, ◌∙◌}
use mathlib.Core.Bool.{true, false}
use mathlib.Core.List.{List, [], ◌∷◌, ◌++◌, map}
use lib.ListN.{length, get_or, length-append, length-map, get_or-append, get_or-map}
use lib.Seq.{get_or-append-add}
use Rattle.hgn.specs.Lists.{any, filter, take_until, split_at_each}
use Rattle.hgn.specs.Rows.{Row, row, has, most_rows}
use Rattle.hgn.specs.Tag as Tag
use Rattle.hgn.specs.Meaning.{begins_operator, starts_with, first_value, literals, nodes_of, action_of, method_of, domain_of}
use Rattle.hgn.specs.Questions.{passed}
use Rattle.hgn.specs.Run.{no_action, no_method}
use Rattle.hgn.specs.Shop as Shop
use Rattle.hgn.specs.Shop.{shop_rows}
use Rattle.hgn.specs.Order as Order
use Rattle.hgn.specs.Order.{order_rows}
use Rattle.hgn.proofs.Logic.Tests.{or_false}
use Rattle.hgn.proofs.Sheets.Passed.{shop_passed}
use Rattle.hgn.proofs.Sheets.Readback.{actions_kept, methods_kept}
use Rattle.hgn.proofs.Sheets.Written as Written
use Rattle.hgn.proofs.Sheets.Written.{shop_parts, shop_rules, order_begins_none}
use Rattle.sheet_rows.specs.declared.position.Sheet.TheVariants as Of
use Rattle.sheet_index.specs.Index.{starts, ends, span, Indexable, layout_of, span_of, tags_of, values_of, span_rows}
use Rattle.sheet_check.proofs.Lookup.{rows_length}
use Rattle.sheet_check.proofs.Orders.{order_fits, order_few, order_length}
use Rattle.sheet_index.proofs.Spans.{span_take_until, bounds, Until, until_suc, NodesFrom, starts_count, operator_span, first_node_law, columns_span}

-- What stands past the actions and the methods.
no_action_law : action_of [] ≡ no_action
unfolding action_of first_value literals
no_action_law = refl

no_method_law : method_of [] ≡ no_method
unfolding method_of literals nodes_of split_at_each
no_method_law = refl

module _ (shop : List ℕ) (e : Shop.check_shop shop ≡ passed) where
  abbrev actions : List (List Row)
  actions = filter (starts_with Tag.action) (split_at_each begins_operator (shop_rows shop))

  abbrev methods : List (List Row)
  methods = filter (starts_with Tag.method) (split_at_each begins_operator (shop_rows shop))

  shop_fits : Shop.size_words + (Shop.row_count shop + Shop.row_count shop) ≤ length shop
  shop_fits = omega (arith, (shop_passed shop e).size)

  pub actions_length : length actions ≡ Shop.action_count shop
  unfolding Shop.domain domain_of
  actions_length = sym (length-map actions action_of) ∙ (shop_passed shop e).action_count_law

  pub methods_length : length methods ≡ Shop.method_count shop
  unfolding Shop.domain domain_of
  methods_length = sym (length-map methods method_of) ∙ (shop_passed shop e).method_count_law

  -- No sheet has more than 4,000 rows.
  pub shop_few : Shop.row_count shop ≤ 4000
  shop_few = omega (arith, (shop_rules shop e).few_rows, Written.shop_length shop e)

  pub shop_length : length (shop_rows shop) ≡ Shop.row_count shop
  unfolding shop_rows
  shop_length = rows_length Shop.size_words (Shop.row_count shop) shop shop_fits

  -- All actions stand before all methods.
  pub operators_in_order : actions ++ methods ≡ split_at_each begins_operator (shop_rows shop)
  operators_in_order = rw (shop_parts shop e, actions_kept, methods_kept)

  -- As many starts as actions and methods.
  pub operators_count : length (starts 0 (shop_rows shop)) ≡ Shop.action_count shop + Shop.method_count shop
  operators_count = omega (arith, starts_count (shop_rows shop) 0, ap length operators_in_order, length-append actions methods, actions_length, methods_length)

  -- Action `k` is part `k`.
  pub action_span : (k : ℕ) → k < Shop.action_count shop
      → get_or (Shop.domain shop).actions k no_action ≡ action_of (span (shop_rows shop) (get_or (bounds (shop_rows shop)) k 0) (get_or (bounds (shop_rows shop)) (suc k) 0))
  unfolding Shop.domain domain_of
  action_span k h =
      ap (get_or (map action_of actions) k) (sym no_action_law)
      ∙ get_or-map action_of actions k []
      ∙ ap action_of
      (sym (get_or-append actions methods [] k (omega (arith, actions_length)))
      ∙ ap (λ l. get_or l k []) operators_in_order
      ∙ operator_span (shop_rows shop) k (omega (arith, operators_count)))

  -- Method `m` comes that many parts after the actions.
  pub method_span : (m : ℕ) → m < Shop.method_count shop →
      let b = Shop.action_count shop + m in
      get_or (Shop.domain shop).methods m no_method ≡ method_of (span (shop_rows shop) (get_or (bounds (shop_rows shop)) b 0) (get_or (bounds (shop_rows shop)) (suc b) 0))
  unfolding Shop.domain domain_of
  method_span m h =
      ap (get_or (map method_of methods) m) (sym no_method_law)
      ∙ get_or-map method_of methods m []
      ∙ ap method_of
      (sym (get_or-append-add actions methods m [])
      ∙ ap (λ k. get_or (actions ++ methods) (k + m) []) actions_length
      ∙ ap (λ l. get_or l (Shop.action_count shop + m) []) operators_in_order
      ∙ operator_span (shop_rows shop) (Shop.action_count shop + m) (omega (arith, operators_count)))

  -- A shop sheet that passed can be indexed.
  pub shop_indexable : {table : List ℕ} → most_rows + (Shop.action_count shop + Shop.method_count shop) < length table
      → Indexable shop (layout_of Of.Shop shop) table (Shop.action_count shop + Shop.method_count shop)
  unfolding shop_rows
  shop_indexable r = record { fits = shop_fits; few = shop_few; room = r; counted = sym operators_count }

  -- The tags and the values of a span are its rows.
  pub shop_columns : (order : List ℕ) (from to : ℕ) → from ≤ to → to ≤ Shop.row_count shop →
      span_rows shop order (span_of Of.Shop from to) ≡ span (shop_rows shop) from to
  unfolding span_rows tags_of values_of shop_rows
  shop_columns order from to f t = columns_span shop (layout_of Of.Shop shop) from to f t shop_fits

-- Rows that begin no action and no method.
none_open : (rows : List Row) (i : ℕ) → any begins_operator rows ≡ false → (starts i rows ≡ []) × (take_until begins_operator rows ≡ rows)
unfolding any starts take_until
none_open [] i e = (refl, refl)
none_open (r ∷ rows) i e =
    let a = or_false (begins_operator r) (any begins_operator rows) e in
    let ih = none_open rows (suc i) a.1 in
    rw a.0 (ih.0, ap (◌∷◌ r) ih.1)

module _ (shop sheet : List ℕ) (e : Order.check_order shop sheet ≡ passed) where
  none_begins : (starts 0 (order_rows sheet) ≡ []) × (take_until begins_operator (order_rows sheet) ≡ (order_rows sheet))
  none_begins = none_open (order_rows sheet) 0 (order_begins_none shop sheet e)

  pub order_starts : starts 0 (order_rows sheet) ≡ []
  order_starts = none_begins.0

  -- The whole sheet, from 0 up to N, is rows of goals and before them rows of atoms true at the start.
  pub order_until : Until (order_rows sheet) 0 (Order.row_count sheet)
  order_until = rw none_begins.1 (omega (arith, order_length shop sheet e))

  pub order_whole : span (order_rows sheet) 0 (Order.row_count sheet) ≡ order_rows sheet
  order_whole = span_take_until (order_rows sheet) 0 begins_operator (Order.row_count sheet) order_until ∙ none_begins.1

  -- Its walk over nodes starts at row 0, or behind the atoms true at the start.
  pub order_nodes_here : has Tag.node (get_or (order_rows sheet) 0 (row 0 0)) ≡ true → NodesFrom (order_rows sheet) 0 (Order.row_count sheet)
  order_nodes_here o = record { until = order_until; node = λ _. o }

  pub order_nodes_later : 0 < Order.row_count sheet → has Tag.node (get_or (order_rows sheet) 0 (row 0 0)) ≡ false →
      let next = get_or (ends 0 (order_rows sheet)) 0 0 in
      (split_at_each (has Tag.node) (span (order_rows sheet) 0 (Order.row_count sheet)) ≡ split_at_each (has Tag.node) (span (order_rows sheet) next (Order.row_count sheet)))
      × NodesFrom (order_rows sheet) next (Order.row_count sheet)
  order_nodes_later h o =
      first_node_law (order_rows sheet) 0 (Order.row_count sheet) (omega (arith, order_length shop sheet e)) (until_suc (order_rows sheet) 0 (Order.row_count sheet) order_until h) o

  pub order_indexable : {table : List ℕ} → most_rows < length table → Indexable sheet (layout_of Of.Order sheet) table 0
  unfolding order_rows
  order_indexable r = record { fits = order_fits shop sheet e; few = order_few shop sheet e; room = r; counted = sym (ap length order_starts) }

  pub order_columns : (from to : ℕ) → from ≤ to → to ≤ Order.row_count sheet →
      span_rows shop sheet (span_of Of.Order from to) ≡ span (order_rows sheet) from to
  unfolding span_rows tags_of values_of order_rows
  order_columns from to f t = columns_span sheet (layout_of Of.Order sheet) from to f t (order_fits shop sheet e)
