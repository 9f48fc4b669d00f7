-- An action and a method of a checked shop sheet, read along its table: rows and cost; needs, nodes and goal. Assumes nothing.
use Prim.Native.Nat.{ℕ, zero, suc, ◌+◌, ◌-◌, ◌<◌, ◌≤◌}
use native.Mathlib.Omega.{arith}
use native.Mathlib.Nat.{not-suc-le-zero, le_of_suc-le-suc}
use native.Mathlib.Numerals.{add-one}
use mathlib.Core.Path.{◌≡◌, refl, sym, ap, ap₂, ◌∙◌, subst}
use mathlib.Core.Bool.{true, false}
use mathlib.Core.List.{List, [], ◌∷◌, ◌++◌, map, map-append, map-map, Memᴰ}
use lib.ListN.{length, take, drop, get_or, length-map}
use lib.Seq.{drop-cons, get_or-drop, get_or-append-add}
use borrow.Author.Tests.{eqb-true}
use Rattle.hgn.specs.Lists.{filter, take_until, split_at_each}
use Rattle.hgn.specs.Rows.{Row, row, has, most_rows}
use Rattle.hgn.specs.Tag as Tag
use Rattle.hgn.specs.Meaning.{Action, Method, begins_operator, starts_with, literals, first_value, node_of, nodes_of, action_of, method_of, network_of}
use Rattle.hgn.specs.Run.{no_action, no_method, action_at, method_at}
use Rattle.hgn.specs.Written.{ConjunctRules}
use Rattle.hgn.specs.Shop.{size_words, atom_count, row_count, action_count, method_count, shop_rows, domain}
use Rattle.sheet_check.proofs.Lookup.{rows_at}
use Rattle.hgn.proofs.Sheets.Checked.{length_last_after_all, shop_counts, kept, method_nodes}
use Rattle.hgn.proofs.Sheets.Methods.{needs_first, goal_of_last}
use Rattle.hgn.proofs.Sheets.Written.{shop_rules}
use Rattle.sheet_rows.specs.declared.position.Sheet.TheVariants as Of
use Rattle.sheet_index.specs.Index.{starts, ends, span, span_of, span_rows, rows_in}
use Rattle.sheet_index.proofs.Spans.{take_until_take_until, span_take_until, opens_no, bounds, operator_first, operator_ends, operator_until, operator_span, part_span, part_end, operator_nodes}
use Rattle.sheet_index.proofs.Indexed.{actions_length, methods_length, shop_length, operators_in_order, operators_count, action_span, method_span}
use Rattle.sheet_index.specs.Tables.{Indexed, HasRows, ActionIn, Bounds, node_at, MethodAt}
use Rattle.sheet_index.specs.declared.rows.Rows.{Rows}
use Rattle.sheet_index.specs.declared.operators.MethodRows.{MethodRows}
use Rattle.sheet_index.proofs.NodeParts.{walk_nodes}
use Rattle.sheet_index.proofs.Tables.{shop_passes, ends_fit, end_at, start_at, rows_of, indexable}

module _ {A : Type 0} where
  get_or_mem : (l : List A) (i : ℕ) (d : A) → i < length l → Memᴰ (get_or l i d) l
  get_or_mem [] i d h = absurd (not-suc-le-zero h)
  get_or_mem (x ∷ l) zero d h = Memᴰ.head refl
  get_or_mem (x ∷ l) (suc i) d h = Memᴰ.tail (get_or_mem l i d (le_of_suc-le-suc h))

  span_cons : (xs : List A) (n e : ℕ) (d : A) → n < length xs → n < e → span xs n e ≡ get_or xs n d ∷ span xs (suc n) e
  unfolding span
  span_cons xs n e d h l = let k : e - n ≡ suc (e - suc n) = omega arith in rw (k, drop-cons xs n d h)

-- The first row of a span.
first_of_span : (rows : List Row) (a e : ℕ) → a < e → e ≤ length rows → first_value (span rows a e) ≡ (get_or rows a (row 0 0)).value
unfolding span first_value
first_of_span rows a e h l =
    ap₂ {C = ℕ} (λ n xs. first_value (take n xs)) (let d : e - a ≡ suc (e - suc a) = omega arith in d) (drop-cons rows a (row 0 0) (omega arith))

-- The first row of an action or a method has no literal.
behind_head : (t f : ℕ) → Tag.method < t → Tag.method < f → (r : Row) (rs : List Row) → begins_operator r ≡ true → literals t f (r ∷ rs) ≡ literals t f rs
unfolding literals
behind_head t f a b r rs o = rw (opens_no t a r o, opens_no f b r o)

-- The rows of a node of the shop sheet.
abbrev pub bound_rows : List ℕ → List ℕ → Bounds → List Row
bound_rows shop order b = span_rows shop order (span_of Of.Shop b.from b.to)

-- A method has as many nodes as the walk along its rows.
module _ {shop order table : List ℕ} {m : ℕ} {r : MethodRows} (a : MethodAt shop order table m r) where
  pub method_size : length (network_of (method_at (domain shop) m)) ≡ length a.bs
  unfolding network_of
  method_size = length_last_after_all 0 (method_at (domain shop) m).nodes ∙ ap length (sym a.nodes) ∙ length-map a.bs (node_at shop order Of.Shop)

module _ {shop order table : List ℕ} (ix : Indexed shop order table) where
  abbrev rows : List Row
  rows = shop_rows shop

  -- Action or method `b`, from its start up to the next, as the code reads the table.
  module _ (b : ℕ) (h : b < action_count shop + method_count shop) where
    pub operator_in_table : most_rows + b + 1 < length table
    operator_in_table = omega (arith, (indexable ix).room)

    pub operator_read : span_rows shop order (span_of Of.Shop (get_or table (most_rows + b) 0) (get_or table (most_rows + b + 1) 0)) ≡ get_or (split_at_each begins_operator rows) b []
    operator_read =
        let w = operator_ends rows b (omega (arith, operators_count shop (shop_passes ix))) in
        let from_is : get_or table (most_rows + b) 0 ≡ get_or (bounds rows) b 0 = sym (get_or-drop most_rows table b 0) ∙ start_at ix b (omega arith) in
        let to_is : get_or table (most_rows + b + 1) 0 ≡ get_or (bounds rows) (suc b) 0 =
        ap (λ (i : ℕ). get_or table i 0) {x = most_rows + b + 1} {y = most_rows + suc b} (omega arith) ∙ sym (get_or-drop most_rows table (suc b) 0) ∙ start_at ix (suc b) (omega arith) in
        rw (from_is, to_is) (rows_of ix _ _ (omega arith) w.1 ∙ sym (operator_span rows b (omega (arith, operators_count shop (shop_passes ix)))))

  -- Action `k`, from its start up to the next, as the code reads the table.
  module _ (k : ℕ) (low : 1 ≤ k) (high : k ≤ action_count shop) where
    operator : k - 1 < length (starts 0 rows)
    operator = omega (arith, operators_count shop (shop_passes ix))

    start_is : (at : ℕ) → at ≡ most_rows + (k - 1) → get_or table at 0 ≡ get_or (bounds rows) (k - 1) 0
    start_is at e = ap (λ (i : ℕ). get_or table i 0) e ∙ sym (get_or-drop most_rows table (k - 1) 0) ∙ start_at ix (k - 1) (omega arith)

    end_is : get_or table (most_rows + k) 0 ≡ get_or (bounds rows) (suc (k - 1)) 0
    end_is =
        sym (get_or-drop most_rows table k 0)
        ∙ start_at ix k (omega arith)
        ∙ ap (λ (i : ℕ). get_or (bounds rows) i 0) {x = k} {y = suc (k - 1)} (omega arith)

    pub action_in_table : most_rows + k < length table
    action_in_table = omega (arith, (indexable ix).room)

    pub start_below : (at : ℕ) → at ≡ most_rows + (k - 1) → get_or table at 0 < row_count shop
    start_below at e = omega (arith, start_is at e, (operator_first rows (k - 1) operator).0, shop_length shop (shop_passes ix))

    -- Behind its first row stand its needs and its effects.
    pub action_there : (at : ℕ) → at ≡ most_rows + (k - 1) → {rs : Rows} → HasRows shop (get_or table at 0 + 1) (get_or table (most_rows + k) 0) rs → ActionIn shop k rs
    unfolding action_of
    action_there at e {rs} r =
        let w = operator_ends rows (k - 1) operator in
        let f = operator_first rows (k - 1) operator in
        let behind : rows_in rs ≡ span rows (suc (get_or (bounds rows) (k - 1) 0)) (get_or (bounds rows) (suc (k - 1)) 0) =
        r.rows_are order
        ∙ rows_of ix _ _ (omega (arith, start_is at e, end_is, w.0)) (omega (arith, end_is, w.1))
        ∙ rw (start_is at e, end_is, add-one) refl in
        let is = action_span shop (shop_passes ix) (k - 1) (omega arith) ∙ ap action_of (span_cons rows _ _ (row 0 0) f.0 w.0) in
        record {
          needs =
              ap (literals Tag.needs_true Tag.needs_false) behind
              ∙ sym (behind_head Tag.needs_true Tag.needs_false (omega arith) (omega arith) _ _ f.1)
              ∙ sym (ap (λ (a : Action). a.needs) is);
          effects =
              ap (literals Tag.makes_true Tag.makes_false) behind
              ∙ sym (behind_head Tag.makes_true Tag.makes_false (omega arith) (omega arith) _ _ f.1)
              ∙ sym (ap (λ (a : Action). a.effects) is);
        }

    -- The atoms of its effects rise, so none stands twice.
    pub action_rises : ConjunctRules (atom_count shop) (action_at (domain shop) k).effects
    action_rises =
        ((shop_rules shop (shop_passes ix)).actions (action_at (domain shop) k)
        (get_or_mem (domain shop).actions (k - 1) no_action (omega (arith, (shop_counts shop (shop_passes ix)).0)))).effects

    -- Its cost is the value of the row at which it starts.
    pub cost_read : (at : ℕ) → at ≡ most_rows + (k - 1) → get_or shop (size_words + row_count shop + get_or table at 0) 0 ≡ (action_at (domain shop) k).cost
    unfolding action_of shop_rows
    cost_read at e =
        let w = operator_ends rows (k - 1) operator in
        sym (ap (λ (a : Action). a.cost) (action_span shop (shop_passes ix) (k - 1) (omega arith))
        ∙ first_of_span rows (get_or (bounds rows) (k - 1) 0) (get_or (bounds rows) (suc (k - 1)) 0) w.0 w.1
        ∙ ap (λ (r : Row). r.value) (ap (λ (a : ℕ). get_or rows a (row 0 0)) (sym (start_is at e))
        ∙ rows_at size_words (row_count shop) shop (indexable ix).fits (get_or table at 0) (start_below at e)))

  module _ (m : ℕ) (h : m < method_count shop) where
    abbrev methods : List (List Row)
    methods = filter (starts_with Tag.method) (split_at_each begins_operator rows)

    abbrev actions : List (List Row)
    actions = filter (starts_with Tag.action) (split_at_each begins_operator rows)

    abbrev b : ℕ
    b = action_count shop + m

    abbrev from : ℕ
    from = get_or (bounds rows) b 0

    abbrev to : ℕ
    to = get_or (bounds rows) (suc b) 0

    abbrev first : ℕ
    first = get_or (ends 0 rows) from 0

    inside : b < length (starts 0 rows)
    inside = omega (arith, operators_count shop (shop_passes ix))

    operator_is : get_or methods m [] ≡ span rows from to
    operator_is =
        sym (get_or-append-add actions methods m [])
        ∙ ap (λ (k : ℕ). get_or (actions ++ methods) (k + m) []) (actions_length shop (shop_passes ix))
        ∙ ap (λ (l : List (List Row)). get_or l b []) (operators_in_order shop (shop_passes ix))
        ∙ operator_span rows b inside

    operator_kept : (starts_with Tag.method (span rows from to) ≡ true) × Memᴰ (span rows from to) (split_at_each begins_operator rows)
    operator_kept =
        subst (λ (l : List Row). (starts_with Tag.method l ≡ true) × Memᴰ l (split_at_each begins_operator rows)) operator_is
        (kept (starts_with Tag.method) (split_at_each begins_operator rows) (get_or_mem methods m [] (omega (arith, methods_length shop (shop_passes ix)))))

    method_in : Memᴰ (method_at (domain shop) m) (domain shop).methods
    method_in = get_or_mem (domain shop).methods m no_method (omega (arith, (shop_counts shop (shop_passes ix)).1))

    ends_first : take_until (has Tag.node) (span rows from to) ≡ span rows from first
    unfolding take_until starts_with
    ends_first =
        let f = operator_first rows b inside in
        let l = operator_ends rows b inside in
        let split = span_cons rows from to (row 0 0) f.0 l.0 in
        let two = eqb-true (get_or rows from (row 0 0)).tag Tag.method (rw split at operator_kept.0) in
        let no : has Tag.node (get_or rows from (row 0 0)) ≡ false = rw two refl in
        ap (take_until (has Tag.node)) split
        ∙ rw no (ap {B = List Row} (λ l. get_or rows from (row 0 0) ∷ take_until (has Tag.node) l) (span_take_until rows (suc from) begins_operator to (operator_until rows b inside))
        ∙ ap {B = List Row} (λ l. get_or rows from (row 0 0) ∷ l) (take_until_take_until begins_operator (has Tag.node) (drop (suc from) rows))
        ∙ part_span rows from f.0)

    abbrev here : MethodRows
    here = record { from = record { 0 = from }; first = record { 0 = first }; end = record { 0 = to } }

    method_here : MethodAt shop order table m here
    unfolding method_of nodes_of network_of
    method_here =
        let f = operator_first rows b inside in
        let l = operator_ends rows b inside in
        let p = part_end rows from f.0 in
        let n = operator_nodes rows b inside in
        let w = walk_nodes rows table (ends_fit ix) (end_at ix) (bound_rows shop order) (rows_of ix) first to l.1 n.1 in
        let is = method_span shop (shop_passes ix) m h in
        let whole : split_at_each (has Tag.node) (span rows from to) ≡ map (bound_rows shop order) w.list = n.0 ∙ sym w.same in
        let nodes : map (node_at shop order Of.Shop) w.list ≡ (method_at (domain shop) m).nodes =
        sym (map-map node_of (bound_rows shop order) w.list) ∙ ap (map node_of) (sym whole) ∙ ap (λ (x : Method). x.nodes) (sym is) in
        let size = method_nodes shop (shop_passes ix) (method_at (domain shop) m) method_in in
        let long : length (network_of (method_at (domain shop) m)) ≡ length w.list =
        length_last_after_all 0 (method_at (domain shop) m).nodes ∙ ap length (sym nodes) ∙ length-map w.list (node_at shop order Of.Shop) in
        record {
          needs =
              ap (literals Tag.needs_true Tag.needs_false) (rows_of ix from first (omega (arith, p.0)) p.1 ∙ sym ends_first)
              ∙ sym (needs_first shop (shop_passes ix) (span rows from to) operator_kept.1 operator_kept.0)
              ∙ ap (λ (x : Method). x.needs) (sym is);
          bs = w.list;
          walk = w.walked;
          nodes = nodes;
          inside = omega (arith, l.1, shop_length shop (shop_passes ix), (indexable ix).few);
          some = omega (arith, long, size.0);
          few = omega (arith, long, size.1);
          goal = λ init last e.
              goal_of_last shop (shop_passes ix) (span rows from to) operator_kept.1 operator_kept.0 (method_at (domain shop) m) method_in is (map (bound_rows shop order) init)
              (bound_rows shop order (record { from = last; to = to }))
              (whole ∙ ap (map (bound_rows shop order)) e ∙ map-append (bound_rows shop order) init (record { from = last; to = to } ∷ []));
        }

    -- As the code reads the table, `k` the word that counts the actions.
    module _ (k : ℕ) (e : k ≡ action_count shop) where
      from_is : get_or table (most_rows + k + m) 0 ≡ from
      from_is =
          ap (λ (i : ℕ). get_or table i 0) {x = most_rows + k + m} {y = most_rows + b} (omega (arith, e))
          ∙ sym (get_or-drop most_rows table b 0)
          ∙ start_at ix b (omega arith)

      to_is : get_or table (most_rows + k + m + 1) 0 ≡ to
      to_is =
          ap (λ (i : ℕ). get_or table i 0) {x = most_rows + k + m + 1} {y = most_rows + suc b} (omega (arith, e))
          ∙ sym (get_or-drop most_rows table (suc b) 0)
          ∙ start_at ix (suc b) (omega arith)

      pub ends_in_table : most_rows + k + m + 1 < length table
      ends_in_table = omega (arith, e, (indexable ix).room)

      -- No sheet has more than 4,000 rows.
      pub from_few : get_or table (most_rows + k + m) 0 < most_rows
      from_few = omega (arith, from_is, (operator_first rows b inside).0, shop_length shop (shop_passes ix), (indexable ix).few)

      first_is : get_or table (get_or table (most_rows + k + m) 0) 0 ≡ first
      first_is = ap (λ (i : ℕ). get_or table i 0) from_is ∙ end_at ix from (operator_first rows b inside).0

      pub method_read : MethodAt shop order table m
          (record {
            from = record { 0 = get_or table (most_rows + k + m) 0 };
            first = record { 0 = get_or table (get_or table (most_rows + k + m) 0) 0 };
            end = record { 0 = get_or table (most_rows + k + m + 1) 0 };
          })
      method_read = rw (first_is, from_is, to_is) method_here
